-- What clone reads (JLS 10.7, 17.4.1), by the objects of a heap.
use Rattle.std.specs.Prelude.{◌≡◌, ℕ, List, Option, Some, None, Bool, false, length, map, slice_get}
use Rattle.std.specs.List.{filter}
use Rattle.model.specs.Classes.{Program}
use Rattle.model.specs.Cloning.{is_cloneable}
use Rattle.model.specs.Lookup.{instance_fields}
use Rattle.model.specs.Names.{Member}
use Rattle.model.specs.State.{ObjectOf, type_of}
use Rattle.model.specs.Worlds.{elements_of}
use Rattle.hierarchy.specs.Places.{name_at}
use Rattle.heap.specs.Heap.{Object, words_at}
use Rattle.linked_code.specs.declared.class.LinkedClass.{LinkedClass}
use Rattle.linked_code.specs.declared.program.LinkedProgram.{LinkedProgram}
use Rattle.machine_state.specs.Shown.{IsProgram}
use Rattle.machine_state.specs.shown_objects.Shown.{ShowsObjects}
use Rattle.race_places.specs.declared.run_actions.Action.{Action}
use Rattle.race_places.specs.declared.run_actions.Action.TheVariants as action
use Rattle.race_places.specs.declared.run_actions.Variable.TheVariants as variable
use Rattle.data_races.specs.Actions as named
use Rattle.data_races.specs.EventActions.{copy_accesses, is_variable, only_if}
use Rattle.data_races.specs.Variables.{InstanceField}
use Rattle.field_names.specs.declared.named_fields.NamedField.{NamedField}
use Rattle.next_accesses.specs.declared.element_ranges.ElementRange.{ElementRange}
use Rattle.next_accesses.specs.next_access.Next.{AreNamed}

abbrev pub is_row_cloneable : Option LinkedClass → Bool
is_row_cloneable None = false
is_row_cloneable (Some row) = row.is_cloneable

abbrev pub whole_array : List Object → (array : ℕ) → ElementRange
whole_array objects array = record { array = array; first = 0; end = length (words_at objects array); is_written = false }

abbrev pub field_read : (object : ℕ) → NamedField → Action
field_read object field = action.Read (variable.InstanceField object field.class field.field) field.is_volatile

-- the reads of the fields of an object that are variables, by their members
abbrev pub reads_of_fields : (object : ℕ) → List Member → List named.Action
reads_of_fields object fields = map (λ field. named.Read (InstanceField object field)) (filter is_variable fields)

-- of an object of the class of a number
abbrev pub TellsFields : Program → (object class : ℕ) → List Action → Type 0
TellsFields trees object class told = AreNamed trees told (reads_of_fields object (instance_fields trees (name_at trees class)))

-- all that clone of an object reads, if that may be cloned
abbrev pub read_by_cloning : Program → (object : ℕ) → ObjectOf ℕ → List named.Action
read_by_cloning trees object o = only_if (is_cloneable trees (type_of o)) (copy_accesses trees object (type_of o) (length (elements_of o)))

-- of whatever object is shown
abbrev pub TellsCopied : Program → LinkedProgram → List Object → (object : ℕ) → List Action → Type 0
TellsCopied trees p objects object told =
    IsProgram trees p → (heap : List (ObjectOf ℕ)) → ShowsObjects trees p.components.items objects heap
    → (receiver : ObjectOf ℕ) → slice_get heap object ≡ Some receiver → AreNamed trees told (read_by_cloning trees object receiver)
