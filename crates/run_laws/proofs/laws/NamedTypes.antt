-- A name that is no array class is of a class.
use Rattle.std.proofs.Common.{◌≡◌, [], ◌∷◌, false, if◌then◌else◌, refl, ap}
use Rattle.model.specs.Names.{Name}
use Rattle.model.specs.DescriptorParts.{is_array_class}
use Rattle.model.specs.ReferenceTypes.{ClassType}
use Rattle.model.specs.DescribedTypes.{field_declared, reference_declared, type_named}

pub named_type : (name : Name) → is_array_class name ≡ false → type_named name ≡ ClassType name
named_type [] e = refl
named_type (b ∷ bytes) e = ap (λ x. if x then reference_declared (b ∷ bytes) (field_declared (b ∷ bytes)) else ClassType (b ∷ bytes)) e
