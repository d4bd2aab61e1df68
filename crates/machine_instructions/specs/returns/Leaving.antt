-- The monitor that an invocation entered is left where it ends (JVMS 2.11.10).
use Rattle.std.specs.Prelude.{◌≡◌, ℕ, List, ◌∷◌, Bool, true, Option, Some, None}
use Rattle.model.specs.Classes.{Program}
use Rattle.model.specs.State.{WorldOf}
use Rattle.model.specs.LimitStands.{Bounds}
use Rattle.model.specs.Worlds.{is_owner, with_exit}
use Rattle.heap.specs.Heap.{Heap}
use Rattle.heap.specs.monitor_events.Tables.{over}
use Rattle.linked_code.specs.declared.program.LinkedProgram.{LinkedProgram}
use Rattle.thread_stacks.specs.Stacks.{ShownEntry, Invocation}
use Rattle.machine_state.specs.declared.state.Shared.{Shared}
use Rattle.machine_state.specs.Shown.{Represents}

-- the object whose monitor the frame on top entered, if there is a frame
abbrev pub HasEntered : List ShownEntry → Option ℕ → Type 0
HasEntered (Invocation frame ∷ others) entered = entered ≡ frame.entered
HasEntered stack entered = entered ≡ None

-- the thread owns the monitor
abbrev pub may_leave : WorldOf ℕ → ℕ → Option ℕ → Bool
may_leave world t None = true
may_leave world t (Some object) = is_owner world t object

abbrev pub SaysMayLeave : Bool → (t : ℕ) → Option ℕ → Heap → Type 0
SaysMayLeave answer t entered heap = (world : WorldOf ℕ) → answer ≡ may_leave (over world heap) t entered

-- the world after it is left
abbrev pub with_leave : WorldOf ℕ → ℕ → Option ℕ → WorldOf ℕ
with_leave world t None = world
with_leave world t (Some object) = with_exit world t object

-- it is left in each world that is shown; no lock becomes fat, and nothing but monitors has changed
pub record Leaves (t : ℕ) (entered : Option ℕ) (old new : Shared) : Type 0 where
  pub represents : (trees : Program) (p : LinkedProgram) (bounds : Bounds) (world : WorldOf ℕ) → Represents trees p bounds old world
      → Represents trees p bounds new (with_leave world t entered)
  pub flags : new.heap.locks.fat ≡ old.heap.locks.fat
  pub rest : new ≡ record old { heap = new.heap }
