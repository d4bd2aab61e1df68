-- Classes and members at places, as what instructions ask for.
use Rattle.std.specs.Prelude.{◌≡◌, ℕ, Option, Some, None, Bool, true, false}
use Rattle.model.specs.Names.{Name}
use Rattle.model.specs.Tree.{FieldTree, MethodTree}
use Rattle.model.specs.Classes.{Program}
use Rattle.model.specs.AccessFlags.{is_static_field, is_instance_field, is_static_method}
use Rattle.model.specs.Calls.{is_instance_one}
use Rattle.model.specs.Resolution.{is_missing}
use Rattle.hierarchy.specs.Places.{name_at}

-- the class of the name is there, and has no place where it is missing
abbrev pub IsPlaceOf : Program → Name → Option ℕ → Type 0
IsPlaceOf files name (Some place) = (name_at files place ≡ name) × (is_missing files name ≡ false)
IsPlaceOf files name None = is_missing files name ≡ true

-- static, where this is wanted, and else not
abbrev pub is_field_of_kind : Bool → FieldTree → Bool
is_field_of_kind true field = is_static_field field
is_field_of_kind false field = is_instance_field field

abbrev pub is_method_of_kind : Bool → MethodTree → Bool
is_method_of_kind true method = is_static_method method
is_method_of_kind false method = is_instance_one method
