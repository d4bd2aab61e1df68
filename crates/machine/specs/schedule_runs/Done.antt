-- Events of a schedule, done by a machine one after another (own; JVMS 2.6).
use Rattle.std.specs.Prelude.{◌≡◌, ℕ, List, [], ◌∷◌, ◌++◌, length, IsTrue, IsFalse}
use Rattle.model.specs.declared.event.Event.{Event}
use Rattle.model.specs.Accepted.{IsAccepted}
use Rattle.model.specs.Classes.{Program}
use Rattle.model.specs.LimitStands.{Bounds, bounds_of}
use Rattle.model.specs.State.{State}
use Rattle.model.specs.Step.{is_enabled}
use Rattle.machine_state.specs.Shown.{IsProgram}
use Rattle.machine_state.specs.shown_runs.Runs.{HasRun, IsRefusedAfter}
use Rattle.machine.specs.declared.machine.Stopped.{Stopped}
use Rattle.machine.specs.declared.machine.Stopped.TheVariants as stopped
use Rattle.machine.specs.Machines.{MachineOf}

-- The machine shows where these events of a run of accepted files led, at none of which a limit stood.
pub record HasDone (m : MachineOf) (files : List (List ℕ)) (trees : Program) (events : List Event) : Type 0 where
  pub accepted : IsAccepted files trees
  pub program : IsProgram trees m.program
  pub run : HasRun trees m.program (bounds_of m.limits) m.shared events

-- the first of these events is there, and so is what is said of it
abbrev pub OfNext : List Event → (Event → Type 0) → Type 0
OfNext [] P = ⊥
OfNext (event ∷ events) P = P event

-- Why no more were done, in the state to which those led that were: none is left; or the next one is not enabled; or it is, and a
-- limit stands at it, or it takes memory, which is wanted.
abbrev pub EndsBy : Stopped → Program → Bounds → State → (done left : List Event) → Type 0
EndsBy stopped.Most trees bounds state done left = left ≡ []
EndsBy stopped.NotEnabled trees bounds state done left = OfNext left (λ event. IsFalse (is_enabled trees bounds.frames state event))
EndsBy (stopped.Refused told) trees bounds state done left =
    OfNext left (λ event. IsTrue (is_enabled trees bounds.frames state event) × IsRefusedAfter trees bounds done event told)

-- so many events of a schedule were done, after those before it: a front of it
pub record HasGone (m : MachineOf) (files : List (List ℕ)) (trees : Program) (before schedule : List Event) (n : ℕ)
    (why : Stopped) : Type 0 where
  pub front : List Event
  pub left : List Event
  pub schedule_is : schedule ≡ front ++ left
  pub count : n ≡ length front
  pub done : HasDone m files trees (before ++ front)
  pub ends : EndsBy why trees (bounds_of m.limits) done.run.lead.state (before ++ front) left

-- whatever run of whatever files was shown, it goes on by the schedule, as far as that goes
abbrev pub GoesThrough : (result : ℕ × Stopped) → (schedule : List Event) → (old new : MachineOf) → Type 0
GoesThrough result schedule old new =
    (new ≡ record old { shared = new.shared })
    × ((files : List (List ℕ)) (trees : Program) (before : List Event) → HasDone old files trees before
    → HasGone new files trees before schedule result.0 result.1)
