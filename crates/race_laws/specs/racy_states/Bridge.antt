-- How the two definitions of a data race meet.
use Rattle.std.specs.Prelude.{◌≡◌, ℕ, List, ◌++◌, Some}
use Rattle.model.specs.declared.event.Event.{Event}
use Rattle.model.specs.Classes.{Program}
use Rattle.model.specs.State.{State}
use Rattle.model.specs.Run.{run}
use Rattle.data_races.specs.Races.{HasRace, IsRacy, IsCorrectlySynchronized}

-- a run that leads to a racy state goes on to one that has a race
abbrev pub DoRacyStatesRace : Type 0
DoRacyStatesRace =
    (files : Program) (frames : ℕ) (events : List Event) (state : State) → run files frames events ≡ Some state → IsRacy files frames state
    → (more : List Event) × HasRace files frames (events ++ more)

-- no run of a program that is correctly synchronized leads to a racy state
abbrev pub AreCorrectProgramsNeverRacy : Type 0
AreCorrectProgramsNeverRacy =
    (files : Program) (frames : ℕ) → IsCorrectlySynchronized files frames → (events : List Event) (state : State) → run files frames events ≡ Some state
    → IsRacy files frames state → ⊥
