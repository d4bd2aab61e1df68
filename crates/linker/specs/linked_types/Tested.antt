-- The classes against which types are tested (JVMS 6.5 checkcast, instanceof, aastore), by their numbers.
use Rattle.std.specs.Prelude.{◌≡◌, ◌<◌, ◌^◌, ℕ, List, [], ◌∷◌, Option, true, length}
use Rattle.std.specs.Option.{option_map_or}
use Rattle.std.specs.List.{flat_map}
use Rattle.model.specs.Classes.{Program, classes_of}
use Rattle.linked_code.specs.declared.subclasses.Subclasses.{Subclasses}
use Rattle.linked_code.specs.declared.types.Element.{Element}
use Rattle.linked_code.specs.declared.types.Element.TheVariants as element
use Rattle.linked_code.specs.declared.types.LinkedType.{LinkedType}
use Rattle.linked_code.specs.Subtypes.{HasColumn}
use Rattle.types.specs.subclass_table.Columns.{is_tested}

-- the class of a type, or of the elements of an array; none of a primitive type
abbrev pub class_of_element : Element → List ℕ
class_of_element (element.Class number) = number ∷ []
class_of_element (element.Primitive of) = []

abbrev pub tested_in : LinkedType → List ℕ
tested_in t = class_of_element t.element

abbrev pub tested_in_row : List (Option LinkedType) → List ℕ
tested_in_row row = flat_map (λ (entry : Option LinkedType). option_map_or tested_in entry []) row

-- a table of subclasses has a column for each of the classes, as `subclasses` makes it for them
abbrev pub HaveColumns : Program → List ℕ → Subclasses → Type 0
HaveColumns files tested table = (class : ℕ) → class < length (classes_of files) → class < 2 ^ 16 → is_tested tested class ≡ true → HasColumn table class
