-- What the examples say of the races of a run.
use Rattle.std.specs.Prelude.{◌≡◌, ℕ, List, Bool, false, map, slice_index_or, replicate}
use Rattle.std.specs.Option.{option_map_or}
use Rattle.model.specs.declared.event.Event.{Event}
use Rattle.model.specs.Classes.{Program}
use Rattle.model.specs.Run.{run}
use Rattle.run_laws.specs.interleavings.Ends.{Has}
use Rattle.data_races.specs.Actions.{Begin}
use Rattle.data_races.specs.HappensBefore.{IsRace}
use Rattle.data_races.specs.Races.{ActionOfRun, actions_of_run, memory_order, is_racy}
use Rattle.data_races.specs.RaceTest.{races_of}

-- so many events of a thread, with pick 0
abbrev pub times : ℕ → ℕ → List Event
times n thread = replicate n (record { thread = thread; pick = 0 })

-- how many frames a thread may have
abbrev pub frames : ℕ
frames = 1024

abbrev pub event_at : List ActionOfRun → ℕ → ℕ
event_at run i = (slice_index_or run i (record { thread = 0; event = 0; action = Begin 0 })).event

-- the events of two actions, by their places in the run
abbrev pub events_at : List ActionOfRun → ℕ × ℕ → ℕ × ℕ
events_at run places = (event_at run places.0, event_at run places.1)

-- the pairs of events of the run that race are these; the earlier one comes first
pub record AreRacing (files : Program) (events : List Event) (pairs : List (ℕ × ℕ)) : Type 0 where
  pub each : (i j : ℕ) → IsRace (memory_order files) (actions_of_run files frames events) i j
      → Has pairs (events_at (actions_of_run files frames events) (i, j))
  pub only : (pair : ℕ × ℕ) → Has pairs pair
      → (i j : ℕ) × IsRace (memory_order files) (actions_of_run files frames events) i j × (events_at (actions_of_run files frames events) (i, j) ≡ pair)

-- the same, computed
abbrev pub racing_in : Program → List ActionOfRun → List (ℕ × ℕ)
racing_in files run = map (events_at run) (races_of (memory_order files) run)

abbrev pub racing_events : Program → List Event → List (ℕ × ℕ)
racing_events files events = racing_in files (actions_of_run files frames events)

-- whether the state after the events is racy
abbrev pub is_racy_after : Program → List Event → Bool
is_racy_after files events = option_map_or (is_racy files frames) (run files frames events) false
