-- The end of a thread (JVMS 2.10; JLS 12.4.1, 17.2), in whatever world is shown.
use Rattle.std.specs.Prelude.{◌≡◌, ℕ, List, true}
use Rattle.model.specs.Classes.{Program}
use Rattle.model.specs.State.{WorldOf}
use Rattle.model.specs.LimitStands.{Bounds}
use Rattle.model.specs.Step.{SteppedOf, PartOf, with_end, settled}
use Rattle.linked_code.specs.declared.program.LinkedProgram.{LinkedProgram}
use Rattle.thread_stacks.specs.Stacks.{ShownEntry}
use Rattle.heap.specs.monitor_events.Tables.{BothBecome}
use Rattle.machine_state.specs.declared.state.Shared.{Shared}
use Rattle.machine_state.specs.Events.{IsDone}

-- a thread has ended, in each world; no lock becomes fat, and nothing but monitors and threads has changed
pub record Ends (t : ℕ) (old new : Shared) : Type 0 where
  pub become : BothBecome (λ world. with_end world t true) old.heap.locks.fat old.heap new.heap old.threads new.threads
  pub rest : new ≡ record old { heap = new.heap; threads = new.threads }

-- whichever event was done before, with this stack after it, the end of the thread that may belong to it is done too
abbrev pub Settles : (t : ℕ) → (between new : Shared) (to : List ShownEntry) → Type 0
Settles t between new to =
    (trees : Program) (p : LinkedProgram) (bounds : Bounds) (inflated : List ℕ) (world : WorldOf ℕ) (old : Shared) (stepped : SteppedOf (PartOf ℕ))
    → IsDone trees p bounds inflated world stepped old between to → IsDone trees p bounds inflated world (settled t stepped) old new to
