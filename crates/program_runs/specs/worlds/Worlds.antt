-- A world (own; JVMS 2.6; JLS 17): what has been done, and why no more.
use Rattle.std.specs.Prelude.{◌≡◌, ◌⊎◌, ◌<◌, ◌≤◌, Bool, ◌-◌, ◌++◌, ℕ, List, [], Option, Some, None, IsTrue, IsFalse, length, replicate, min}
use Rattle.model.specs.declared.end.End.{End}
use Rattle.model.specs.declared.end.End.TheVariants as ends
use Rattle.model.specs.declared.event.Event.{Event}
use Rattle.model.specs.declared.limits.Limits.{Limits}
use Rattle.model.specs.Classes.{Program}
use Rattle.model.specs.LimitStands.{Bounds, bounds_of}
use Rattle.model.specs.Run.{is_quiet}
use Rattle.model.specs.State.{State}
use Rattle.model.specs.Step.{is_enabled}
use Rattle.machine_state.specs.Refusals.{cause_of}
use Rattle.machine.specs.Machines.{MachineOf}
use Rattle.machine.specs.Tops.{plain}
use Rattle.machine.specs.declared.machine.Stopped.{Stopped}
use Rattle.machine.specs.declared.machine.Stopped.TheVariants as stopped
use Rattle.machine.specs.machine_replay.Replays.{IsRefusedFor}
use Rattle.machine.specs.schedule_runs.Done.{HasDone, HasGone}
use Rattle.program_runs.specs.worlds.Turns.{IsFound, IsNext}

-- the trees of its class files, how many events it may do, those that it has done, its machine, and why it does no more
pub record WorldOf : Type 0 where
  pub trees : Program
  pub budget : ℕ
  pub events : List Event
  pub machine : MachineOf
  pub end : Option End

-- Why no more events are done, in the state to which those led that were: no thread may go on; or the budget is used up, and some
-- thread may; or an enabled event is refused.
abbrev pub EndFits : Program → Bounds → State → (budget : ℕ) → List Event → Option End → Type 0
EndFits trees bounds state budget events None = Unit {0}
EndFits trees bounds state budget events (Some ends.Quiet) = IsTrue (is_quiet trees bounds.frames state)
EndFits trees bounds state budget events (Some ends.Budget) = (length events ≡ budget) × IsFalse (is_quiet trees bounds.frames state)
EndFits trees bounds state budget events (Some (ends.Refused i cause)) =
    (i ≡ length events) × (i < budget) × ((event : Event) × IsTrue (is_enabled trees bounds.frames state event) × IsRefusedFor trees bounds events event cause)
EndFits trees bounds state budget events (Some ends.Schedule) = ⊥
EndFits trees bounds state budget events (Some (ends.NotEnabled i)) = ⊥

-- The machine shows where its events led: a run of accepted files with these trees, at none of whose events a limit stood. They are no
-- more than the budget, and the end fits.
pub record Holds (w : WorldOf) : Type 0 where
  pub files : List (List ℕ)
  pub done : HasDone w.machine files w.trees w.events
  pub within : length w.events ≤ w.budget
  pub fits : EndFits w.trees (bounds_of w.machine.limits) done.run.lead.state w.budget w.events w.end

-- ---- a new world

-- of these files, under these limits and with this budget, before any event
pub record IsNew (trees : Program) (limits : Limits) (budget : ℕ) (w : WorldOf) : Type 0 where
  pub trees_are : w.trees ≡ trees
  pub limits_are : w.machine.limits ≡ limits
  pub budget_is : w.budget ≡ budget
  pub none : w.events ≡ []
  pub on : w.end ≡ None

-- ---- a turn

-- files, limits and budget stay
pub record IsOfSame (old new : WorldOf) : Type 0 where
  pub trees : new.trees ≡ old.trees
  pub budget : new.budget ≡ old.budget
  pub limits : new.machine.limits ≡ old.machine.limits

-- of a budget so much is spent: all of it, or, where a run may be stopped, no more than that
abbrev pub IsSpent : (may_stop : Bool) → (budget spent : ℕ) → Type 0
IsSpent may_stop budget spent = (spent ≡ budget) ⊎ (IsTrue may_stop × (spent ≤ budget))

-- files and limits stay, and the budget, unless the run may be stopped
pub record IsOfLess (may_stop : Bool) (old new : WorldOf) : Type 0 where
  pub trees : new.trees ≡ old.trees
  pub budget : IsSpent may_stop old.budget new.budget
  pub limits : new.machine.limits ≡ old.machine.limits

-- a run is stopped: its budget is used up by the events that it has done
abbrev pub stopped_world : WorldOf → WorldOf
stopped_world w = record w { budget = length w.events; end = Some ends.Budget }

-- it is, unless it has an end, or no thread has an event that is enabled
abbrev pub Stops : (end : Option End) → (old new : WorldOf) → Type 0
Stops (Some end) old new = new ≡ old
Stops None old new = (IsFound old.machine 0 None × (new ≡ old)) ⊎ ((length old.events ≤ old.budget) × (new ≡ stopped_world old))

-- a run that may be stopped is, where it has no end; or nothing changes
abbrev pub StopsFor : (may_stop : Bool) → (old new : WorldOf) → Type 0
StopsFor may_stop old new =
    (new ≡ old) ⊎ (IsTrue may_stop × (old.end ≡ None) × (length old.events ≤ old.budget) × (new ≡ stopped_world old))

-- So often an event was done and recorded, of as many times as were asked for and the budget has left, and no more for this reason.
pub record HasRepeated (event : Event) (most n : ℕ) (why : Stopped) (old new : WorldOf) : Type 0 where
  pub same : IsOfSame old new
  pub files : List (List ℕ)
  pub asked : ℕ
  pub asked_is : asked ≡ min most (old.budget - length old.events)
  pub gone : HasGone new.machine files old.trees old.events (replicate asked event) n why
  pub events : new.events ≡ old.events ++ replicate n event
  pub on : new.end ≡ old.end

-- what up to so many times of an event come to: nothing, where an end is set
abbrev pub RepeatsWithin : Event → (most : ℕ) → (end : Option End) → (result : ℕ × Stopped) → (old new : WorldOf) → Type 0
RepeatsWithin event most (Some end) result old new = (result ≡ (0, stopped.Most)) × (new ≡ old)
RepeatsWithin event most None result old new = HasRepeated event most result.0 result.1 old new

-- at least one event of a thread that picks nothing was done
pub record HasShared (old new : WorldOf) (t most : ℕ) : Type 0 where
  pub count : ℕ
  pub some : 0 < count
  pub why : Stopped
  pub repeated : HasRepeated (plain t) most count why old new

-- an end is set, and nothing is done
pub record HasEnded (old new : WorldOf) : Type 0 where
  pub same : IsOfSame old new
  pub events : new.events ≡ old.events
  pub end : End
  pub is : new.end ≡ Some end

-- what a turn comes to, from a number up: nothing, where an end is set
abbrev pub TakesTurn : (from most : ℕ) → (end : Option End) → Option ℕ → (old new : WorldOf) → Type 0
TakesTurn from most (Some end) result old new = (result ≡ None) × (new ≡ old)
TakesTurn from most None (Some t) old new =
    ((holds : Holds old) → IsNext old.trees old.machine.limits.frames holds.done.run.lead.state from t) × HasShared old new t most
TakesTurn from most None None old new = HasEnded old new

-- the end where the next event is refused after so many
abbrev pub stopped_end : Stopped → ℕ → Option End
stopped_end stopped.Most i = None
stopped_end stopped.NotEnabled i = None
stopped_end (stopped.Refused told) i = Some (ends.Refused i (cause_of told))
