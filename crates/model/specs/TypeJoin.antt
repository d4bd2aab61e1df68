-- The join of two types and of two frame types (JVMS 4.10.2.2, merging): the least that is above both.
use Rattle.std.specs.Prelude.{ℕ, zero, suc, List, [], ◌∷◌, Option, Some, None, Bool, ◌&&◌, ◌==◌, if◌then◌else◌, length, unwrap_or, IsTrue}
use Rattle.std.specs.Option.{option_map, option_map_or, option_and_then}
use Rattle.model.specs.Names.{Name, java_lang_object}
use Rattle.model.specs.Classes.{Program, classes_of, superclass_of, is_subclass}
use Rattle.model.specs.ReferenceTypes.{primitive_number, ReferenceType, ClassType, PrimitiveArray, ReferenceArray}
use Rattle.model.specs.Types.{VerificationType, Unusable, IntType, NullType, OfType, Uninitialised, UninitialisedThis}
use Rattle.model.specs.InitialisedTypes.{is_uninitialised, is_uninitialised_this}
use Rattle.model.specs.TypeOrder.{FrameType}

-- u is the least above s and t; or nothing is above both
abbrev pub IsJoin : {A : Type 0} → (A → A → Bool) → A → A → Option A → Type 0
IsJoin is_below s t None = (v : _) → IsTrue (is_below s v) → IsTrue (is_below t v) → ⊥
IsJoin is_below s t (Some u) =
    IsTrue (is_below s u) × IsTrue (is_below t u) × ((v : _) → IsTrue (is_below s v) → IsTrue (is_below t v) → IsTrue (is_below u v))

-- ---- classes and arrays

-- the first class, from the first one upwards by fewer than so many steps, of which the second is a subclass
abbrev pub common_within : Program → ℕ → Name → Name → Option Name
common_within files zero c d = None
common_within files (suc n) c d =
    if is_subclass files d c then Some c else option_and_then (λ s. common_within files n s d) (superclass_of files c)

-- the first common superclass; none where the superclasses of a class do not end with Object, as they do in linked files
abbrev pub class_join : Program → Name → Name → Option Name
class_join files c d = common_within files (suc (length (classes_of files))) c d

-- Object, if the class is below it
abbrev pub object_above : Program → Name → Option ReferenceType
object_above files c = if is_subclass files c java_lang_object then Some (ClassType java_lang_object) else None

abbrev pub reference_join : Program → ReferenceType → ReferenceType → Option ReferenceType
reference_join files (ClassType c) (ClassType d) = option_map (λ name. ClassType name) (class_join files c d)
reference_join files (ClassType c) (PrimitiveArray b) = object_above files c
reference_join files (ClassType c) (ReferenceArray b) = object_above files c
reference_join files (PrimitiveArray a) (ClassType d) = object_above files d
reference_join files (PrimitiveArray a) (PrimitiveArray b) =
    Some (if primitive_number a == primitive_number b then PrimitiveArray a else ClassType java_lang_object)
reference_join files (PrimitiveArray a) (ReferenceArray b) = Some (ClassType java_lang_object)
reference_join files (ReferenceArray a) (ClassType d) = object_above files d
reference_join files (ReferenceArray a) (PrimitiveArray b) = Some (ClassType java_lang_object)
reference_join files (ReferenceArray a) (ReferenceArray b) =
    Some (option_map_or (λ t. ReferenceArray t) (reference_join files a b) (ClassType java_lang_object))

-- ---- types

abbrev pub unusable_join : VerificationType → Option VerificationType
unusable_join Unusable = Some Unusable
unusable_join IntType = None
unusable_join NullType = None
unusable_join (OfType t) = None
unusable_join (Uninitialised at c) = None
unusable_join (UninitialisedThis c) = None

abbrev pub int_join : VerificationType → Option VerificationType
int_join Unusable = None
int_join IntType = Some IntType
int_join NullType = None
int_join (OfType t) = None
int_join (Uninitialised at c) = None
int_join (UninitialisedThis c) = None

abbrev pub null_join : VerificationType → Option VerificationType
null_join Unusable = None
null_join IntType = None
null_join NullType = Some NullType
null_join (OfType t) = Some (OfType t)
null_join (Uninitialised at c) = None
null_join (UninitialisedThis c) = None

abbrev pub of_join : Program → ReferenceType → VerificationType → Option VerificationType
of_join files s Unusable = None
of_join files s IntType = None
of_join files s NullType = Some (OfType s)
of_join files s (OfType t) = option_map (λ u. OfType u) (reference_join files s t)
of_join files s (Uninitialised at c) = None
of_join files s (UninitialisedThis c) = None

-- the join on the operand stack, where there is one; what is not initialised joins only with itself
abbrev pub stack_join : Program → VerificationType → VerificationType → Option VerificationType
stack_join files Unusable t = unusable_join t
stack_join files IntType t = int_join t
stack_join files NullType t = null_join t
stack_join files (OfType s) t = of_join files s t
stack_join files (Uninitialised at c) t = if is_uninitialised at c t then Some t else None
stack_join files (UninitialisedThis c) t = if is_uninitialised_this c t then Some t else None

-- in local variables there always is one
abbrev pub local_join : Program → VerificationType → VerificationType → VerificationType
local_join files s t = unwrap_or (stack_join files s t) Unusable

-- ---- frame types

abbrev pub in_front : {A : Type 0} → Option A → Option (List A) → Option (List A)
in_front None rest = None
in_front (Some x) None = None
in_front (Some x) (Some xs) = Some (x ∷ xs)

-- place by place, for lists as long as one another
abbrev pub join_pairwise : {A : Type 0} → (A → A → Option A) → List A → List A → Option (List A)
join_pairwise join [] [] = Some []
join_pairwise join [] (y ∷ ys) = None
join_pairwise join (x ∷ xs) [] = None
join_pairwise join (x ∷ xs) (y ∷ ys) = in_front (join x y) (join_pairwise join xs ys)

abbrev pub frame_of_slots : Bool → Option (List VerificationType) → Option (List VerificationType) → Option FrameType
frame_of_slots mark None stack = None
frame_of_slots mark (Some locals) None = None
frame_of_slots mark (Some locals) (Some stack) = Some (record { slots = record { locals = locals; stack = stack }; constructed = mark })

-- stacks of unequal depths have none; it is constructed where both are
abbrev pub frame_join : Program → FrameType → FrameType → Option FrameType
frame_join files a b =
    frame_of_slots (a.constructed && b.constructed)
    (join_pairwise (λ s t. Some (local_join files s t)) a.slots.locals b.slots.locals)
    (join_pairwise (stack_join files) a.slots.stack b.slots.stack)
