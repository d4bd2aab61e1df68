-- The code's types as those of the definitions: a class is named by its place in the program.
use Rattle.std.specs.Prelude.{ℕ, zero, suc, map, reverse, Option, Some, Bool, false}
use Rattle.std.specs.Option.{option_map_or}
use Rattle.model.specs.Names.{name_eq, java_lang_object}
use Rattle.model.specs.Classes.{Program}
use Rattle.model.specs.ReferenceTypes as reference
use Rattle.model.specs.Types as model
use Rattle.model.specs.TypeOrder as frames
use Rattle.model.specs.DescribedTypes.{arrays}
use Rattle.model.specs.TypeJoin.{object_above}
use Rattle.model.specs.Primitives.{primitive_of}
use Rattle.hierarchy.specs.Places.{name_at}
use Rattle.types.specs.declared.reference_type.Element.{Element}
use Rattle.types.specs.declared.reference_type.Element.TheVariants as element
use Rattle.types.specs.declared.reference_type.ReferenceType.{ReferenceType}
use Rattle.types.specs.declared.verification_type.VerificationType.{VerificationType}
use Rattle.types.specs.declared.verification_type.VerificationType.TheVariants as type
use Rattle.types.specs.declared.frame_type.FrameType.{FrameType}

abbrev pub element_in : Program → Element → reference.ReferenceType
element_in files (element.Class place) = reference.ClassType (name_at files place)
element_in files (element.PrimitiveArray of) = reference.PrimitiveArray (primitive_of of)

abbrev pub reference_in : Program → ReferenceType → reference.ReferenceType
reference_in files t = arrays t.dimensions (element_in files t.element)

abbrev pub type_in : Program → VerificationType → model.VerificationType
type_in files type.Unusable = model.Unusable
type_in files type.Int = model.IntType
type_in files type.Null = model.NullType
type_in files (type.Object t) = model.OfType (reference_in files t)
type_in files (type.Uninitialised offset class) = model.Uninitialised offset (name_at files class)
type_in files (type.UninitialisedThis class) = model.UninitialisedThis (name_at files class)

-- the top of the stack comes first
abbrev pub frame_in : Program → FrameType → frames.FrameType
frame_in files f =
    record {
      slots = record { locals = map (type_in files) f.locals.items; stack = reverse (map (type_in files) f.stack.items) };
      constructed = f.constructed;
    }

-- ---- types that are, or are below, java/lang/Object

abbrev pub is_object_type : reference.ReferenceType → Bool
is_object_type (reference.ClassType c) = name_eq c java_lang_object
is_object_type (reference.PrimitiveArray of) = false
is_object_type (reference.ReferenceArray of) = false

-- Object, if the type is below it
abbrev pub object_above_type : Program → reference.ReferenceType → Option reference.ReferenceType
object_above_type files (reference.ClassType c) = object_above files c
object_above_type files (reference.PrimitiveArray of) = Some (reference.ClassType java_lang_object)
object_above_type files (reference.ReferenceArray of) = Some (reference.ClassType java_lang_object)

-- the join of arrays of so many dimensions, by the join of their components
abbrev pub array_join : ℕ → Option reference.ReferenceType → Option reference.ReferenceType
array_join zero component = component
array_join (suc n) component = Some (option_map_or (λ t. reference.ReferenceArray t) (array_join n component) (reference.ClassType java_lang_object))
