-- Threads that wait in a circle, in the state that a machine shows (JLS 17.1; JVMS 5.5).
use Rattle.std.specs.Prelude.{◌≡◌, ℕ, List, Option, Some, Bool, IsTrue, IsFalse}
use Rattle.model.specs.declared.event.Event.{Event}
use Rattle.model.specs.Classes.{Program}
use Rattle.model.specs.LimitStands.{Bounds}
use Rattle.model.specs.Operands.{words}
use Rattle.model.specs.Run.{run}
use Rattle.model.specs.State.{State, StateOf}
use Rattle.search_laws.specs.Waits.{Need, next_need, IsCircle}
use Rattle.linked_code.specs.declared.program.LinkedProgram.{LinkedProgram}
use Rattle.machine_state.specs.declared.state.Shared.{Shared}
use Rattle.machine_state.specs.Shown.{IsProgram}
use Rattle.machine_state.specs.state_events.Whole.{IsShown}
use Rattle.machine.specs.Machines.{MachineOf}
use Rattle.machine.specs.schedule_runs.Done.{HasDone}
use Rattle.waiting_circles.specs.Holders.{Holds}
use Rattle.waiting_circles.specs.Rounds.{next_in}

-- ---- whom a thread waits for, by the words of a state

pub record Awaits (trees : Program) (frames : ℕ) (state : StateOf ℕ) (t u : ℕ) : Type 0 where
  pub differ : t ≡ u → ⊥
  pub need : Need
  pub needs : next_need words trees frames state t ≡ Some need
  pub held : Holds state.world u need

-- it waits for this thread alone, or for none
pub record IsAwaited (trees : Program) (frames : ℕ) (state : StateOf ℕ) (t : ℕ) (result : Option ℕ) : Type 0 where
  pub awaits : (u : ℕ) → result ≡ Some u → Awaits trees frames state t u
  pub only : (u : ℕ) → Awaits trees frames state t u → result ≡ Some u

-- in whatever state is shown
abbrev pub AwaitsNext : LinkedProgram → Shared → (t frames : ℕ) → Option ℕ → Type 0
AwaitsNext p shared t frames result =
    (trees : Program) (bounds : Bounds) (inflated : List ℕ) (state : StateOf ℕ) → IsProgram trees p → IsShown trees p bounds inflated shared state
    → IsAwaited trees frames state t result

-- so it is for each thread, by its number
abbrev pub AreAwaited : LinkedProgram → Shared → (frames : ℕ) → List (Option ℕ) → Type 0
AreAwaited p shared frames nexts = (t : ℕ) → AwaitsNext p shared t frames (next_in nexts t)

-- ---- a machine

pub record HasCircle (trees : Program) (frames : ℕ) (state : State) : Type 0 where
  pub first : ℕ
  pub threads : List ℕ
  pub is : IsCircle trees frames first threads state

-- whether threads wait in a circle in the state that the machine shows
abbrev pub TellsCircle : MachineOf → Bool → Type 0
TellsCircle m told =
    (files : List (List ℕ)) (trees : Program) (events : List Event) (state : State) → HasDone m files trees events
    → run trees m.limits.frames events ≡ Some state
    → (IsTrue told → HasCircle trees m.limits.frames state) × (IsFalse told → HasCircle trees m.limits.frames state → ⊥)
