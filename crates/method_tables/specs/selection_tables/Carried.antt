-- Rows that stand in linked classes.
use Rattle.std.specs.Prelude.{ℕ, List, map}
use Rattle.model.specs.Names.{Name, Member}
use Rattle.model.specs.Classes.{Program}
use Rattle.model.specs.ReferenceTypes.{ClassType}
use Rattle.linked_code.specs.declared.class.LinkedClass.{LinkedClass}
use Rattle.linked_code.specs.declared.class.InterfaceSelection.{InterfaceSelection}
use Rattle.linked_code.specs.Selection.{IsSelection, IsInterfaceSelection}
use Rattle.method_tables.specs.selection_tables.Rows.{IsSelectionInRows, IsInterfaceSelectionInRows}

-- the rows of linked classes
abbrev pub rows_in : List LinkedClass → List (List ℕ)
rows_in classes = map (λ (class : LinkedClass). class.selections.items) classes

abbrev pub interface_rows_in : List LinkedClass → List (List InterfaceSelection)
interface_rows_in classes = map (λ (class : LinkedClass). class.interface_selections.items) classes

-- what rows select, classes with these rows select
abbrev pub AreSelectionsCarried : Type 0
AreSelectionsCarried =
    (files : Program) (classes : List LinkedClass) (named : Name) (method : Member) (place : ℕ)
    → IsSelectionInRows files (rows_in classes) named method place → IsSelection files classes (ClassType named) method place

abbrev pub AreInterfaceSelectionsCarried : Type 0
AreInterfaceSelectionsCarried =
    (files : Program) (classes : List LinkedClass) (named : Name) (method : Member) (selector : ℕ)
    → IsInterfaceSelectionInRows files (interface_rows_in classes) named method selector
    → IsInterfaceSelection files classes named method selector
