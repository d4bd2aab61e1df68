-- Joins of types and of frame types, written out.
use Rattle.std.specs.Prelude.{◌≡◌, ℕ, List, [], ◌∷◌, Option, Some, None, Bool, true, false, codes}
use Rattle.model.specs.Names.{java_lang_object}
use Rattle.model.specs.ReferenceTypes.{ReferenceType, ClassType, PrimitiveArray, ReferenceArray}
use Rattle.model.specs.ReferenceTypes as primitive
use Rattle.model.specs.Types.{VerificationType, Unusable, IntType, NullType, OfType, Uninitialised, UninitialisedThis}
use Rattle.model.specs.DescribedTypes.{made_type, field_declared, verification_type}
use Rattle.model.specs.TypeOrder.{FrameType, is_stack_below, is_local_below, is_frame_below}
use Rattle.model.specs.TypeJoin.{stack_join, local_join, frame_join}

abbrev pub class_type : List ℕ → ReferenceType
class_type name = ClassType name

abbrev pub arithmetic : ReferenceType
arithmetic = ClassType (codes "java/lang/ArithmeticException")

abbrev pub null_pointer : ReferenceType
null_pointer = ClassType (codes "java/lang/NullPointerException")

abbrev pub runtime : ReferenceType
runtime = ClassType (codes "java/lang/RuntimeException")

abbrev pub object : ReferenceType
object = ClassType java_lang_object

abbrev pub runnable : ReferenceType
runnable = ClassType (codes "java/lang/Runnable")

abbrev pub int_array : ReferenceType
int_array = PrimitiveArray primitive.Int

abbrev pub byte_array : ReferenceType
byte_array = PrimitiveArray primitive.Byte

-- the join on the operand stack, in a program without files
abbrev pub joined : VerificationType → VerificationType → Option VerificationType
joined s t = stack_join [] s t

abbrev pub some_of : ReferenceType → Option VerificationType
some_of t = Some (OfType t)

abbrev pub frame : List VerificationType → List VerificationType → Bool → FrameType
frame locals stack constructed = record { slots = record { locals = locals; stack = stack }; constructed = constructed }

pub record TypeJoins : Type 0 where
  -- two classes: the first common superclass
  pub siblings : joined (OfType arithmetic) (OfType null_pointer) ≡ some_of runtime
  pub upper : joined (OfType runtime) (OfType arithmetic) ≡ some_of runtime
  pub lower : joined (OfType arithmetic) (OfType runtime) ≡ some_of runtime
  pub unrelated : joined (OfType arithmetic) (OfType (ClassType (codes "java/lang/String"))) ≡ some_of object
  -- null and a class or an array
  pub null_and_class : joined NullType (OfType arithmetic) ≡ some_of arithmetic
  pub array_and_null : joined (OfType int_array) NullType ≡ some_of int_array
  pub two_nulls : joined NullType NullType ≡ Some NullType
  -- arrays of references: the array of the join
  pub arrays : joined (OfType (ReferenceArray arithmetic)) (OfType (ReferenceArray null_pointer)) ≡ some_of (ReferenceArray runtime)
  pub depths : joined (OfType (ReferenceArray (ReferenceArray arithmetic))) (OfType (ReferenceArray arithmetic))
      ≡ some_of (ReferenceArray object)
  pub inner_ints : joined (OfType (ReferenceArray int_array)) (OfType (ReferenceArray byte_array)) ≡ some_of (ReferenceArray object)
  -- arrays of ints and of bytes are below Object alone
  pub ints_and_bytes : joined (OfType int_array) (OfType byte_array) ≡ some_of object
  pub ints_twice : joined (OfType int_array) (OfType int_array) ≡ some_of int_array
  pub array_and_class : joined (OfType (ReferenceArray arithmetic)) (OfType arithmetic) ≡ some_of object
  -- classes that are not there have none, as nothing is above both; arrays of them have Object
  pub missing_classes : joined (OfType (ClassType (codes "A"))) (OfType (ClassType (codes "B"))) ≡ None
  pub missing_class_and_array : joined (OfType (ClassType (codes "A"))) (OfType int_array) ≡ None
  pub missing_class_twice : joined (OfType (ClassType (codes "A"))) (OfType (ClassType (codes "A"))) ≡ some_of (ClassType (codes "A"))
  pub arrays_of_missing_classes : joined (OfType (ReferenceArray (ClassType (codes "A"))))
      (OfType (ReferenceArray (ClassType (codes "B")))) ≡ some_of object
  -- an int and a reference have none on the stack, and cannot be used in a local variable
  pub int_and_null : joined IntType NullType ≡ None
  pub int_and_null_in_locals : local_join [] IntType NullType ≡ Unusable
  pub unusable_in_locals : local_join [] Unusable IntType ≡ Unusable
  -- what is not initialised joins with itself alone
  pub one_new : joined (Uninitialised 4 (codes "A")) (Uninitialised 4 (codes "A")) ≡ Some (Uninitialised 4 (codes "A"))
  pub two_news : joined (Uninitialised 4 (codes "A")) (Uninitialised 7 (codes "A")) ≡ None
  pub new_and_null : joined (Uninitialised 4 (codes "A")) NullType ≡ None
  pub new_and_this : joined (Uninitialised 4 (codes "A")) (UninitialisedThis (codes "A")) ≡ None
  -- the order: null is not below what is not initialised, and nothing is below Unusable on the stack
  pub null_below_new : is_stack_below [] NullType (Uninitialised 4 (codes "A")) ≡ false
  pub int_below_unusable : is_stack_below [] IntType Unusable ≡ false
  pub int_below_unusable_in_locals : is_local_below [] IntType Unusable ≡ true
  pub array_below_array : is_stack_below [] (OfType (ReferenceArray arithmetic)) (OfType (ReferenceArray runtime)) ≡ true
  pub array_below_object : is_stack_below [] (OfType int_array) (OfType object) ≡ true
  pub ints_below_objects : is_stack_below [] (OfType int_array) (OfType (ReferenceArray object)) ≡ false
  -- an interface counts as Object where a type is made, in arrays too; boolean, byte, char and short are ints
  pub interface : made_type [] runnable ≡ object
  pub interfaces : verification_type [] (field_declared (codes "[[Ljava/lang/Runnable;")) ≡ OfType (ReferenceArray (ReferenceArray object))
  pub bytes : verification_type [] (field_declared (codes "[[B")) ≡ OfType (ReferenceArray byte_array)
  pub boolean : verification_type [] (field_declared (codes "Z")) ≡ IntType
  -- frame types, place by place; constructed where both are
  pub frames : frame_join [] (frame (IntType ∷ NullType ∷ []) (OfType arithmetic ∷ []) true) (frame (IntType ∷ IntType ∷ []) (NullType
      ∷ []) false)
      ≡ Some (frame (IntType ∷ Unusable ∷ []) (OfType arithmetic ∷ []) false)
  pub depths_differ : frame_join [] (frame [] (IntType ∷ []) true) (frame [] [] true) ≡ None
  pub kinds_differ : frame_join [] (frame [] (IntType ∷ []) true) (frame [] (NullType ∷ []) true) ≡ None
  pub constructed : is_frame_below [] (frame [] [] true) (frame [] [] false) ≡ true
  pub not_constructed : is_frame_below [] (frame [] [] false) (frame [] [] true) ≡ false
