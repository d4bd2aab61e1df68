-- A machine that goes on with a finder of races beside it.
use Rattle.std.specs.Prelude.{◌≡◌, ℕ, List, ◌++◌}
use Rattle.model.specs.declared.event.Event.{Event}
use Rattle.model.specs.Classes.{Program}
use Rattle.machine.specs.declared.machine.Stopped.{Stopped}
use Rattle.machine.specs.declared.machine.Stopped.TheVariants as stopped
use Rattle.machine.specs.Machines.{MachineOf}
use Rattle.machine.specs.schedule_runs.Done.{HasDone, HasGone}
use Rattle.race_places.specs.declared.run_actions.RunAction.{RunAction}
use Rattle.run_races.specs.race_finder.Found.{HasWatched}
use Rattle.run_races.specs.named_races.Named.{AreOfRun}
use Rattle.race_runs.specs.declared.finder.Finder.{Finder}

-- the finder was told of the actions of the events that the machine has done
pub record HasRaced (files : List (List ℕ)) (trees : Program) (m : MachineOf) (finder : Finder) (events : List Event) : Type 0 where
  pub done : HasDone m files trees events
  pub tables : finder.tables.linked.now ≡ trees
  pub run : List RunAction
  pub of_run : AreOfRun trees m.limits.frames events run
  pub watched : HasWatched run finder.races.detector finder.races.told.races.keys

-- so many events of a schedule were done, and the finder was told of them
pub record HasRacedOn (files : List (List ℕ)) (trees : Program) (before schedule : List Event) (m : MachineOf) (finder : Finder) (n : ℕ) (why : Stopped) : Type 0 where
  pub gone : HasGone m files trees before schedule n why
  pub raced : HasRaced files trees m finder (before ++ gone.front)

-- whatever run of whatever files was shown, both go on by the schedule, as far as that goes
abbrev pub RacesThrough : (result : ℕ × Stopped) → (schedule : List Event) → (old new : MachineOf) → (before after : Finder) → Type 0
RacesThrough result schedule old new before after =
    (new ≡ record old { shared = new.shared })
    × ((files : List (List ℕ)) (trees : Program) (events : List Event) → HasRaced files trees old before events
    → HasRacedOn files trees events schedule new after result.0 result.1)

-- how many of one event were done
abbrev pub done_by : Stopped → ℕ
done_by stopped.Most = 1
done_by _ = 0
