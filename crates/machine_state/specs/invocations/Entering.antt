-- The monitor that an invocation enters, if its method is synchronized (JVMS 2.11.10).
use Rattle.std.specs.Prelude.{◌≡◌, ◌<◌, ℕ, List, Bool, true, Option, Some, None, Result, Ok, Err, length}
use Rattle.model.specs.Classes.{Program}
use Rattle.model.specs.State.{WorldOf}
use Rattle.model.specs.Outcomes.{Cost, Free}
use Rattle.model.specs.LimitStands.{Bounds}
use Rattle.model.specs.Worlds.{may_enter, with_entry, entry_cost}
use Rattle.heap.specs.Heap.{Heap}
use Rattle.heap.specs.monitor_events.Tables.{over}
use Rattle.linked_code.specs.declared.program.LinkedProgram.{LinkedProgram}
use Rattle.machine_state.specs.declared.refusals.EventRefusal.{EventRefusal}
use Rattle.machine_state.specs.declared.state.Shared.{Shared}
use Rattle.machine_state.specs.Events.{MayBeRefused}
use Rattle.machine_state.specs.Memory.{takes_shared}
use Rattle.machine_state.specs.entries.Entered.{IsShared, IsTaken}

-- the object of the monitor is one of the heap's
abbrev pub IsThere : Option ℕ → Heap → Type 0
IsThere None heap = Unit {0}
IsThere (Some object) heap = object < length heap.locks.monitors

-- no other thread owns the monitor
abbrev pub may_begin : WorldOf ℕ → ℕ → Option ℕ → Bool
may_begin world t None = true
may_begin world t (Some object) = may_enter world t object

-- what the invocation takes, and the world after it
abbrev pub begin_cost : WorldOf ℕ → Option ℕ → Cost
begin_cost world None = Free
begin_cost world (Some object) = entry_cost world object

abbrev pub with_begin : WorldOf ℕ → ℕ → Option ℕ → WorldOf ℕ
with_begin world t None = world
with_begin world t (Some object) = with_entry world t object

abbrev pub SaysMayBegin : Bool → (t : ℕ) → Option ℕ → Heap → Type 0
SaysMayBegin answer t entered heap = (world : WorldOf ℕ) → answer ≡ may_begin (over world heap) t entered

-- it is entered, or refused
abbrev pub EntersBy : Program → LinkedProgram → Bounds → List ℕ → WorldOf ℕ → Result (Unit {0}) EventRefusal → (t : ℕ) → Option ℕ → Shared
    → Shared → Type 0
EntersBy trees p bounds inflated world (Ok u) t entered old new =
    IsTaken trees p bounds inflated world (begin_cost world entered) (with_begin world t entered) old new × (new ≡ record old { heap = new.heap })
EntersBy trees p bounds inflated world (Err told) t entered old new =
    MayBeRefused trees bounds inflated world (begin_cost world entered) (takes_shared (begin_cost world entered)) told × (new ≡ old)

-- in each world that is shown, where no other thread owns the monitor
abbrev pub EntersFor : Result (Unit {0}) EventRefusal → (t : ℕ) → Option ℕ → Shared → Shared → Type 0
EntersFor result t entered old new =
    (trees : Program) (p : LinkedProgram) (bounds : Bounds) (inflated : List ℕ) (world : WorldOf ℕ) → IsShared trees p bounds inflated old world
    → may_begin world t entered ≡ true → EntersBy trees p bounds inflated world result t entered old new
