-- The instance fields that are variables (JLS 17.4.1), by the numbers of the classes that declare them and their places in these.
use Rattle.std.specs.Prelude.{ℕ, List, [], ◌∷◌, Option, Some, None, ◌&&◌, if◌then◌else◌, slice_get}
use Rattle.std.specs.Option.{option_and_then}
use Rattle.model.specs.AccessFlags.{is_instance_field}
use Rattle.model.specs.Classes.{Program, name_of}
use Rattle.model.specs.Lookup.{field_member}
use Rattle.model.specs.Names.{Member}
use Rattle.model.specs.Tree.{FieldTree, FileTree}
use Rattle.hierarchy.specs.Places.{class_at}
use Rattle.data_races.specs.EventActions.{is_variable}
use Rattle.field_names.specs.declared.named_fields.NamedField.{NamedField}
use Rattle.field_names.specs.named_fields.Fields.{IsField}

-- a field that a class declares, if it is one of its objects and a variable
abbrev pub variable_of : FileTree → FieldTree → Option Member
variable_of file f =
    if is_instance_field f && is_variable (field_member (name_of file) file.pool f) then Some (field_member (name_of file) file.pool f) else None

-- the one at a place among those that the class at a place declares
abbrev pub variable_at : Program → (class field : ℕ) → Option Member
variable_at files class field =
    option_and_then (λ (file : FileTree). option_and_then (variable_of file) (slice_get file.fields field)) (class_at files class)

abbrev pub kept_variable : Option NamedField → Option NamedField
kept_variable None = None
kept_variable (Some field) = if field.is_variable then Some field else None

-- each of some fields is told, in their order
abbrev pub AreFields : Program → List Member → List NamedField → Type 0
AreFields files [] [] = Unit {0}
AreFields files (field ∷ fields) (told ∷ rest) = IsField files field told × AreFields files fields rest
AreFields files [] (told ∷ rest) = ⊥
AreFields files (field ∷ fields) [] = ⊥
