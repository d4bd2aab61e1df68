-- A schedule that is followed in a world (own; JVMS 2.6): its events are done, as far as they go.
use Rattle.std.specs.Prelude.{◌≡◌, ◌⊎◌, ◌<◌, ◌≤◌, ◌++◌, ℕ, List, [], None, length}
use Rattle.model.specs.declared.event.Event.{Event}
use Rattle.model.specs.Classes.{Program}
use Rattle.model.specs.LimitStands.{bounds_of}
use Rattle.machine_state.specs.declared.refusals.EventRefusal.TheVariants as refusal
use Rattle.machine.specs.declared.machine.Stopped.{Stopped}
use Rattle.machine.specs.declared.machine.Stopped.TheVariants as stopped
use Rattle.machine.specs.Machines.{MachineOf}
use Rattle.machine.specs.schedule_runs.Done.{HasDone, EndsBy}
use Rattle.program_runs.specs.worlds.Worlds.{WorldOf, IsOfSame}

-- The machine shows where the events led that were done, and there it is so of those that are left, for this reason.
abbrev pub Stands : Stopped → MachineOf → Program → (done left : List Event) → Type 0
Stands why m trees done left = (files : List (List ℕ)) × (has : HasDone m files trees done) × EndsBy why trees (bounds_of m.limits) has.run.lead.state done left

-- an event was refused for want of memory
abbrev pub WantsMemory : Stopped → Type 0
WantsMemory why = why ≡ stopped.Refused refusal.Memory

-- Why no more were done: none is left, or the budget is used up; or it isn't, and the next one is not enabled; or it is, and a limit
-- that stands refuses it.
abbrev pub StopsBy : Stopped → WorldOf → (left : List Event) → Type 0
StopsBy stopped.Most w left = (left ≡ []) ⊎ (w.budget ≤ length w.events)
StopsBy stopped.NotEnabled w left = (length w.events < w.budget) × Stands stopped.NotEnabled w.machine w.trees w.events left
StopsBy (stopped.Refused told) w left =
    (WantsMemory (stopped.Refused told) → ⊥) × (length w.events < w.budget) × Stands (stopped.Refused told) w.machine w.trees w.events left

-- a front of these events was done, and there is no end yet
pub record Follows (events : List Event) (why : Stopped) (old new : WorldOf) : Type 0 where
  pub same : IsOfSame old new
  pub on : new.end ≡ None
  pub front : List Event
  pub left : List Event
  pub events_are : events ≡ front ++ left
  pub done : new.events ≡ old.events ++ front
  pub stops : StopsBy why new left
