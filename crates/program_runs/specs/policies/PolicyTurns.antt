-- What turns of a policy do to a world (own): the events that they are to do, but where memory is wanted.
use Rattle.std.specs.Prelude.{◌≡◌, ◌⊎◌, ◌<◌, ◌++◌, ◌∷◌, ℕ, List, [], Option, Some, None, Bool, true, false, ◌==◌, ◌&&◌, if◌then◌else◌, nat_lt, length, IsTrue, IsFalse}
use Rattle.model.specs.declared.end.End.{End}
use Rattle.model.specs.declared.end.End.TheVariants as ends
use Rattle.model.specs.declared.end.RunCause.TheVariants as cause
use Rattle.model.specs.declared.event.Event.{Event}
use Rattle.model.specs.declared.limits.Limits.{Limits}
use Rattle.model.specs.Classes.{Program}
use Rattle.model.specs.LimitStands.{bounds_of}
use Rattle.model.specs.Run.{may_step}
use Rattle.machine_state.specs.declared.refusals.EventRefusal.TheVariants as refusal
use Rattle.machine_state.specs.Refusals.{cause_of}
use Rattle.machine.specs.declared.machine.Stopped.{Stopped}
use Rattle.machine.specs.declared.machine.Stopped.TheVariants as stopped
use Rattle.program_runs.specs.declared.policies.policy.Policy.{Policy}
use Rattle.program_runs.specs.declared.policies.policy.Policy.TheVariants as policy
use Rattle.program_runs.specs.policies.Runs.{can_do, events_by}
use Rattle.program_runs.specs.worlds.Worlds.{WorldOf, Holds, IsOfSame}

-- memory was wanted for the next event
abbrev pub IsForMemory : End → Type 0
IsForMemory end = (number : ℕ) × (end ≡ ends.Refused number cause.Memory)

-- a thread has an event that is enabled, in the state to which the events of the world led
abbrev pub IsAble : WorldOf → (t : ℕ) → Type 0
IsAble w t =
    (holds : Holds w) → IsTrue (may_step w.trees w.machine.limits.frames holds.done.run.lead.state t)
    × (t < length holds.done.run.lead.state.world.threads)

-- ---- a turn, behind which all these events are to be there

-- they are, and are more than before; the world goes on
pub record IsOn (all : List Event) (old new : WorldOf) : Type 0 where
  pub events : new.events ≡ all
  pub more : length old.events < length all
  pub on : new.end ≡ None

-- there were none to do, and there is an end
pub record IsOver (all : List Event) (old new : WorldOf) : Type 0 where
  pub none : all ≡ old.events
  pub events : new.events ≡ old.events
  pub end : End
  pub is : new.end ≡ Some end

-- memory was wanted behind some of them
pub record IsShort (all : List Event) (old new : WorldOf) : Type 0 where
  pub left : List Event
  pub front : all ≡ new.events ++ left
  pub end : End
  pub is : new.end ≡ Some end
  pub wants : IsForMemory end

pub record DoesTurn (all : List Event) (old new : WorldOf) : Type 0 where
  pub same : IsOfSame old new
  pub how : IsOn all old new ⊎ IsOver all old new ⊎ IsShort all old new

-- an event that can be done was; or it can't, and the world stands as it did
abbrev pub DoesEvent : Event → (done : Bool) → (old new : WorldOf) → Type 0
DoesEvent event true old new =
    IsTrue (can_do old.trees (bounds_of old.machine.limits) old.budget old.events event) × DoesTurn (old.events ++ event ∷ []) old new
DoesEvent event false old new =
    IsFalse (can_do old.trees (bounds_of old.machine.limits) old.budget old.events event)
    × IsOfSame old new × (new.events ≡ old.events) × (new.end ≡ None)

-- whether an event that picks a waiter is all of the turn
abbrev pub PicksTurn : (t pick : ℕ) → (picked : Bool) → (old new : WorldOf) → Type 0
PicksTurn t pick true old new = (0 < pick) × DoesEvent (record { thread = t; pick = pick }) true old new
PicksTurn t pick false old new =
    IsFalse (nat_lt 0 pick && can_do old.trees (bounds_of old.machine.limits) old.budget old.events (record { thread = t; pick = pick }))
    × IsOfSame old new × (new.events ≡ old.events) × (new.end ≡ None)

-- the end behind a turn, by why no more events were done, how many there are, and how many the turn did
abbrev pub turn_end : Stopped → (count done : ℕ) → Option End
turn_end stopped.Most count done = None
turn_end stopped.NotEnabled count done = None
turn_end (stopped.Refused refusal.Memory) count done = Some (ends.Refused count cause.Memory)
turn_end (stopped.Refused told) count done = if done == 0 then Some (ends.Refused count (cause_of told)) else None

-- ---- a run

-- the end behind a front of the events that there are to do: memory was wanted, or the run was stopped
abbrev pub IsEarly : (may_stop : Bool) → End → Type 0
IsEarly may_stop end = IsForMemory end ⊎ (IsTrue may_stop × (end ≡ ends.Budget))

-- all these events are there, and an end; or a front of them, where that is early
pub record HasRunThrough (may_stop : Bool) (all : List Event) (w : WorldOf) : Type 0 where
  pub end : End
  pub is : w.end ≡ Some end
  pub left : List Event
  pub front : all ≡ w.events ++ left
  pub whole : (left ≡ []) ⊎ IsEarly may_stop end

-- a run by a policy came to these events and this end: they are those of the policy, or a front of them, where the end is early
pub record IsRunBy (by : Policy) (may_stop : Bool) (trees : Program) (limits : Limits) (budget : ℕ) (events : List Event) (end : End) : Type 0 where
  pub left : List Event
  pub front : events_by by trees (bounds_of limits) budget ≡ events ++ left
  pub whole : (left ≡ []) ⊎ IsEarly may_stop end

abbrev pub RunsThrough : Policy → (may_stop : Bool) → (old new : WorldOf) → Type 0
RunsThrough by may_stop old new = HasRunThrough may_stop (events_by by old.trees (bounds_of old.machine.limits) old.budget) new
