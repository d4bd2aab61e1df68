use Rattle.std.proofs.Common.{◌≡◌, ℕ, List, drop}
use Rattle.model.specs.declared.class_file.ExceptionEntry.{ExceptionEntry}
use Rattle.model.specs.Tree.{Entry}
use Rattle.model.specs.Classes.{Program}
use Rattle.model.specs.Linkable.{IsLinkable}
use Rattle.model.specs.State.{ObjectOf}
use Rattle.linked_code.specs.Methods.{AreHandlers}
use Rattle.linked_code.specs.Programs.{IsLinkedProgram}
use Rattle.machine_state.specs.shown_objects.Shown.{ShowsObjects}
use Rattle.machine_state.specs.exception_handlers.Handlers.{type_at, first_taking}
use Rattle.machine_state.proofs.exception_handlers.handlers.handler_of.Given as goal

abbrev pub invariant-loop-handler : goal.invariant-loop-handler
invariant-loop-handler l =
    (files : List (List ℕ)) (trees : Program) → IsLinkable files trees → IsLinkedProgram trees l.program
    → (heap : List (ObjectOf ℕ)) → ShowsObjects trees l.program.components.items l.heap.objects heap
    → (pool : List Entry) (at : ℕ → ℕ) (entries : List ExceptionEntry) → AreHandlers trees l.program pool at entries l.handlers
    → first_taking trees pool (type_at heap l.exception) l.offset entries
    ≡ first_taking trees pool (type_at heap l.exception) l.offset (drop l.handler-index entries)
