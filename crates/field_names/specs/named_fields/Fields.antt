-- Fields by the numbers of classes and their places in them, and the field that an instruction names (JVMS 5.4.3.2).
use Rattle.std.specs.Prelude.{◌≡◌, ℕ, [], Option, Some, None, is_some, slice_get, unwrap_or}
use Rattle.std.specs.Option.{option_and_then, option_map}
use Rattle.model.specs.declared.instr.Instr.{Instr}
use Rattle.model.specs.declared.instr.Instr.TheVariants as instr
use Rattle.model.specs.Names.{Member}
use Rattle.model.specs.Tree.{FileTree}
use Rattle.model.specs.Pool.{field_at}
use Rattle.model.specs.Instruction.{instr_at}
use Rattle.model.specs.Classes.{Program, Body, name_of, body_of}
use Rattle.model.specs.Lookup.{find_field, field_member}
use Rattle.linked_code.specs.Numbers.{IsMethodAt}
use Rattle.hierarchy.specs.Places.{class_at, name_at}
use Rattle.data_races.specs.EventActions.{is_variable}
use Rattle.data_races.specs.Variables.{declares_volatile}
use Rattle.race_places.specs.named_actions.Names.{Names}
use Rattle.field_names.specs.declared.named_fields.NamedField.{NamedField}

-- ---- classes and fields by their numbers

-- the field at a place among those that a class declares
abbrev pub member_at : Program → ℕ → ℕ → Option Member
member_at files class field =
    option_and_then (λ (file : FileTree). option_map (field_member (name_of file) file.pool) (slice_get file.fields field)) (class_at files class)

abbrev pub no_member : Member
no_member = record { class = []; name = []; descriptor = [] }

abbrev pub names_of : Program → Names
names_of files =
    record {
      class_name = λ class. name_at files class;
      has_class = λ class. is_some (class_at files class);
      field = λ class field. unwrap_or (member_at files class field) no_member;
      has_field = λ class field. is_some (member_at files class field);
    }

-- ---- the field that an instruction names

abbrev pub reference_in : Body → Instr → Option Member
reference_in body (instr.Field access index) = field_at body.pool index
reference_in body _ = None

-- the symbolic reference of the instruction at an offset
abbrev pub field_referred : Body → ℕ → Option Member
field_referred body offset = option_and_then (reference_in body) (instr_at body.code.code offset)

-- and the field that it is resolved to
abbrev pub field_named : Program → Body → ℕ → Option Member
field_named files body offset = option_and_then (find_field files) (field_referred body offset)

-- ---- what is told of it

-- its class and place, whether it is volatile, and whether it is a variable
pub record IsField (files : Program) (field : Member) (told : NamedField) : Type 0 where
  pub at : member_at files told.class told.field ≡ Some field
  pub is_volatile : told.is_volatile ≡ declares_volatile files field
  pub is_variable : told.is_variable ≡ is_variable field

-- of a field, or there is neither
abbrev pub IsFieldIf : Program → Option Member → Option NamedField → Type 0
IsFieldIf files None None = Unit {0}
IsFieldIf files (Some field) (Some told) = IsField files field told
IsFieldIf files None (Some told) = ⊥
IsFieldIf files (Some field) None = ⊥

-- of the instruction at an offset of the method of a number, where that has code
abbrev pub NamesField : Program → ℕ → ℕ → Option NamedField → Type 0
NamesField files number offset told =
    (method : Member) (body : Body) → IsMethodAt files number method → body_of files method ≡ Some body
    → IsFieldIf files (field_named files body offset) told
