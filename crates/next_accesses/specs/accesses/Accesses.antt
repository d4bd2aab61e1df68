-- What an instruction reads or writes where it goes on (JLS 17.4.1, 17.4.2), by the words of a frame.
use Rattle.std.specs.Prelude.{◌≡◌, ℕ, ◌+◌, List, Option, Some, None, Bool, false, if◌then◌else◌, map, slice_index_or}
use Rattle.std.specs.Option.{option_map, option_and_then}
use Rattle.model.specs.declared.value.Value.{Value}
use Rattle.model.specs.declared.instr.FieldAccess.{FieldAccess}
use Rattle.model.specs.declared.instr.FieldAccess.TheVariants as access
use Rattle.model.specs.declared.instr.Instr.{Instr}
use Rattle.model.specs.declared.instr.Instr.TheVariants as instr
use Rattle.model.specs.Names.{Member}
use Rattle.model.specs.Pool.{field_at}
use Rattle.model.specs.Classes.{Program}
use Rattle.model.specs.Lookup.{find_field}
use Rattle.model.specs.Operands.{word_reference}
use Rattle.model.specs.Sites.{Site}
use Rattle.race_places.specs.declared.run_actions.Action.{Action}
use Rattle.race_places.specs.declared.run_actions.Action.TheVariants as action
use Rattle.race_places.specs.declared.run_actions.Variable.{Variable}
use Rattle.race_places.specs.declared.run_actions.Variable.TheVariants as variable
use Rattle.race_places.specs.named_actions.Names.{IsRight, named_action}
use Rattle.data_races.specs.EventActions.{access_by}
use Rattle.std.specs.Option.{option_to_list}
use Rattle.field_names.specs.declared.named_fields.NamedField.{NamedField}
use Rattle.field_names.specs.named_fields.Fields.{IsFieldIf, names_of}
use Rattle.next_accesses.specs.read_operands.Reads.{ReadsAt}

abbrev pub object_under : List ℕ → ℕ → Option ℕ
object_under operands place = word_reference (slice_index_or operands place 0)

-- ---- variables

abbrev pub instance_of : Option ℕ → NamedField → Option Variable
instance_of object field = option_map (λ r. variable.InstanceField r field.class field.field) object

abbrev pub static_of : NamedField → Variable
static_of field = variable.StaticField field.class field.field

-- the index lies on top of the array
abbrev pub element_of : List ℕ → ℕ → Option Variable
element_of operands place = option_map (λ r. variable.Element r (slice_index_or operands place 0)) (object_under operands (place + 1))

-- ---- actions

abbrev pub read_of : Bool → Option Variable → Option Action
read_of is_volatile v = option_map (λ x. action.Read x is_volatile) v

abbrev pub write_of : Bool → Option Variable → Option Action
write_of is_volatile v = option_map (λ x. action.Write x is_volatile) v

abbrev pub access_action : List ℕ → FieldAccess → NamedField → Option Action
access_action operands access.GetStatic field = read_of field.is_volatile (Some (static_of field))
access_action operands access.PutStatic field = write_of field.is_volatile (Some (static_of field))
access_action operands access.GetField field = read_of field.is_volatile (instance_of (object_under operands 0) field)
access_action operands access.PutField field = write_of field.is_volatile (instance_of (object_under operands 1) field)

-- of a field that is a variable
abbrev pub field_action : List ℕ → FieldAccess → NamedField → Option Action
field_action operands how field = if field.is_variable then access_action operands how field else None

-- ---- what is told

-- the field that an instruction names is the one of a site, or there is neither
abbrev pub IsFieldOf : Program → Site → Instr → Option NamedField → Type 0
IsFieldOf files site (instr.Field how index) field = IsFieldIf files (option_and_then (find_field files) (field_at site.body.pool index)) field
IsFieldOf files site _ field = Unit {0}

-- it is right, if there is one
abbrev pub IsRightIf : Program → Option Action → Type 0
IsRightIf files None = Unit {0}
IsRightIf files (Some told) = IsRight (names_of files) files told

pub record IsAccess (files : Program) (site : Site) (ops : List Value) (instruction : Instr) (told : Option Action) : Type 0 where
  pub are : map (named_action (names_of files)) (option_to_list told) ≡ access_by files site ops instruction
  pub right : IsRightIf files told

-- whatever site has the instruction, with operands whose words the frame has
abbrev pub TellsAccess : List ℕ → Instr → Option NamedField → Option Action → Type 0
TellsAccess operands instruction field told =
    (files : Program) (site : Site) (ops : List Value) → IsFieldOf files site instruction field → ReadsAt ops operands instruction
    → IsAccess files site ops instruction told
