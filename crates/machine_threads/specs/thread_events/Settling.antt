-- The end of a thread belongs to the event that empties its stack (JVMS 2.10; JLS 17).
use Rattle.std.specs.Prelude.{ℕ, List, Result}
use Rattle.model.specs.Classes.{Program}
use Rattle.model.specs.State.{WorldOf}
use Rattle.model.specs.LimitStands.{Bounds}
use Rattle.model.specs.Step.{SteppedOf, PartOf, settled}
use Rattle.linked_code.specs.declared.program.LinkedProgram.{LinkedProgram}
use Rattle.thread_stacks.specs.Stacks.{ShownEntry}
use Rattle.machine_state.specs.declared.answers.Answer.{Answer}
use Rattle.machine_state.specs.declared.refusals.EventRefusal.{EventRefusal}
use Rattle.machine_state.specs.declared.state.Shared.{Shared}
use Rattle.machine_state.specs.Events.{Becomes}

-- whatever a result says of what becomes of an event before, the other one says it with the end of the thread that may belong to it
abbrev pub SettlesEvent : (t : ℕ) → (given result : Result Answer EventRefusal) → (between new : Shared) (to : List ShownEntry) → Type 0
SettlesEvent t given result between new to =
    (trees : Program) (p : LinkedProgram) (bounds : Bounds) (inflated : List ℕ) (world : WorldOf ℕ) (stepped : SteppedOf (PartOf ℕ)) (old : Shared) (from : List ShownEntry)
    → Becomes trees p bounds inflated world stepped given old between from to
    → Becomes trees p bounds inflated world (settled t stepped) result old new from to
