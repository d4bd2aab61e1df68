-- The rows of the selections of a class.
use Rattle.std.specs.Prelude.{ℕ, List}
use Rattle.linked_code.specs.declared.class.InterfaceSelection.{InterfaceSelection}
use Rattle.linked_program.specs.declared.class_rows.sources.Selections.{Selections}

abbrev pub places_of : Selections → List ℕ
places_of selections = selections.by_place.items

abbrev pub selectors_of : Selections → List InterfaceSelection
selectors_of selections = selections.by_selector.items
