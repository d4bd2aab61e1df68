-- What is answered for a type that a descriptor or a class constant describes.
use Rattle.std.specs.Prelude.{◌≡◌, ◌≤◌, ℕ, zero, suc, List, map, Option, Some, None, Bool, true, false}
use Rattle.std.specs.Option.{option_to_list}
use Rattle.model.specs.Classes.{Program}
use Rattle.model.specs.ReferenceTypes.{Primitive, ReferenceType, ClassType, PrimitiveArray, ReferenceArray}
use Rattle.model.specs.Types.{VerificationType}
use Rattle.model.specs.Resolution.{is_missing}
use Rattle.model.specs.DescribedTypes.{DeclaredType, DeclaredInt, DeclaredReference, arrays}
use Rattle.types.specs.View.{type_in}
use Rattle.types.specs.declared.verification_type.VerificationType as declared_type
use Rattle.types.specs.declared.verification_type.VerificationType.TheVariants as type
use Rattle.types.specs.declared.described_types.described.MethodTypes.{MethodTypes}

-- the class of a type, or that of an array's elements, is not found
abbrev pub type_missing : Program → ReferenceType → Bool
type_missing files (ClassType c) = is_missing files c
type_missing files (PrimitiveArray of) = false
type_missing files (ReferenceArray of) = type_missing files of

abbrev pub declared_missing : Program → DeclaredType → Bool
declared_missing files DeclaredInt = false
declared_missing files (DeclaredReference t) = type_missing files t

-- what is answered, seen by `view`, is the wanted one, and there is no answer exactly where its class is missing
abbrev pub Gives : {X Y : Type 0} → (X → Y) → Bool → Y → Option X → Type 0
Gives view missing wanted (Some x) = (view x ≡ wanted) × (missing ≡ false)
Gives view missing wanted None = missing ≡ true

-- ---- the types of a method

abbrev pub parameters_in : Program → MethodTypes → List VerificationType
parameters_in files m = map (type_in files) m.parameters.items

-- the type of its result; none where it is void
abbrev pub results_in : Program → MethodTypes → List VerificationType
results_in files m = map (type_in files) (option_to_list m.returns)

-- ---- what a descriptor declares

-- an int, or an array of so many dimensions
abbrev pub primitive_declared : ℕ → Primitive → DeclaredType
primitive_declared zero of = DeclaredInt
primitive_declared (suc n) of = DeclaredReference (arrays n (PrimitiveArray of))

-- an array of so many dimensions at most, or no array
abbrev pub HasDimensions : ℕ → declared_type.VerificationType → Type 0
HasDimensions n (type.Object t) = t.dimensions ≤ n
HasDimensions n type.Unusable = Unit {0}
HasDimensions n type.Int = Unit {0}
HasDimensions n type.Null = Unit {0}
HasDimensions n (type.Uninitialised offset class) = Unit {0}
HasDimensions n (type.UninitialisedThis class) = Unit {0}
