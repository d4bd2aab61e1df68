-- When an instruction that names a variable goes on to read or write it (JVMS 5.5, 6.5), by the words of a machine.
use Rattle.std.specs.Prelude.{◌≡◌, ℕ, ◌+◌, nat_lt, List, Option, Some, None, Bool, true, false, ◌&&◌, length, slice_index_or}
use Rattle.std.specs.Option.{option_map_or}
use Rattle.model.specs.declared.instr.ArrayKind.{ArrayKind}
use Rattle.model.specs.declared.instr.ArrayKind.TheVariants as array_kind
use Rattle.model.specs.declared.instr.FieldAccess.{FieldAccess}
use Rattle.model.specs.declared.instr.FieldAccess.TheVariants as access
use Rattle.model.specs.declared.instr.Instr.{Instr}
use Rattle.model.specs.declared.instr.Instr.TheVariants as instr
use Rattle.model.specs.Names.{Name}
use Rattle.model.specs.Classes.{Program}
use Rattle.model.specs.LimitStands.{Bounds}
use Rattle.model.specs.State.{WorldOf}
use Rattle.model.specs.ClassInitialisation.{look_by, status_of}
use Rattle.heap.specs.Heap.{Object, words_at}
use Rattle.linked_code.specs.declared.program.LinkedProgram.{LinkedProgram}
use Rattle.linked_code.specs.Numbers.{IsClassAt}
use Rattle.machine_state.specs.declared.state.Shared.{Shared}
use Rattle.machine_state.specs.Shown.{IsProgram, Represents}
use Rattle.machine_instructions.specs.type_instructions.Words.{TestsStore}
use Rattle.data_races.specs.EventActions.{is_ready}
use Rattle.field_names.specs.declared.named_fields.NamedField.{NamedField}
use Rattle.next_accesses.specs.accesses.Accesses.{object_under}

-- ---- classes

-- the class of a number is there for a thread, in whatever world is shown
abbrev pub IsClassReady : Shared → (t number : ℕ) → Bool → Type 0
IsClassReady shared t number told =
    (trees : Program) (p : LinkedProgram) (bounds : Bounds) (world : WorldOf ℕ) → IsProgram trees p → Represents trees p bounds shared world
    → (class : Name) → IsClassAt trees number class → told ≡ is_ready (look_by t (status_of world class))

-- so is the one that declares a field, if there is one
abbrev pub IsReadyIf : Shared → (t : ℕ) → Option NamedField → Bool → Type 0
IsReadyIf shared t None told = told ≡ false
IsReadyIf shared t (Some field) told = IsClassReady shared t field.class told

-- the field of an object asks for no class
abbrev pub FieldGoesOn : Shared → (t : ℕ) → FieldAccess → Option NamedField → Bool → Type 0
FieldGoesOn shared t access.GetStatic field told = IsReadyIf shared t field told
FieldGoesOn shared t access.PutStatic field told = IsReadyIf shared t field told
FieldGoesOn shared t access.GetField field told = told ≡ true
FieldGoesOn shared t access.PutField field told = told ≡ true

-- ---- elements

-- an index, and under it an array that is not null and has the index
abbrev pub has_element : List Object → List ℕ → ℕ → Bool
has_element objects operands place =
    option_map_or (λ r. nat_lt (slice_index_or operands place 0) (length (words_at objects r))) (object_under operands (place + 1)) false

-- a word may stand in an array, if that is not null
abbrev pub MayStand : LinkedProgram → List Object → (word : ℕ) → Option ℕ → Bool → Type 0
MayStand p objects word None told = told ≡ false
MayStand p objects word (Some r) told = TestsStore p objects r word told

abbrev pub MayStore : LinkedProgram → List Object → List ℕ → ArrayKind → Bool → Type 0
MayStore p objects operands array_kind.Reference told = MayStand p objects (slice_index_or operands 0 0) (object_under operands 2) told
MayStore p objects operands _ told = told ≡ true

-- ---- instructions

abbrev pub GoesOn : LinkedProgram → Shared → (t : ℕ) → List ℕ → Instr → Option NamedField → Bool → Type 0
GoesOn p shared t operands (instr.Field access index) field told = FieldGoesOn shared t access field told
GoesOn p shared t operands (instr.LoadElement kind) field told = told ≡ has_element shared.heap.objects operands 0
GoesOn p shared t operands (instr.StoreElement kind) field told =
    (stores : Bool) × MayStore p shared.heap.objects operands kind stores × (told ≡ (has_element shared.heap.objects operands 1 && stores))
GoesOn p shared t operands _ field told = Unit {0}
