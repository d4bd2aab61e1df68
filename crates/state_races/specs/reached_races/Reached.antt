-- The line of a data race of the state to which events lead (JLS 17.4.5).
use Rattle.std.specs.Prelude.{◌≡◌, ℕ, List, Some}
use Rattle.model.specs.declared.event.Event.{Event}
use Rattle.model.specs.Classes.{Program}
use Rattle.model.specs.Run.{run}
use Rattle.model.specs.State.{State}
use Rattle.data_races.specs.Races.{IsRacy}
use Rattle.machine.specs.Machines.{MachineOf}
use Rattle.machine.specs.schedule_runs.Done.{HasDone}
use Rattle.run_races.specs.declared.told_races.Race.{Race}
use Rattle.race_runs.specs.race_lines.Lines.{IsRaceLine}
use Rattle.state_races.specs.next_races.Races.{IsRaceOfState}

-- these events lead to a racy state
pub record LeadsToRace (trees : Program) (frames : ℕ) (events : List Event) : Type 0 where
  pub state : State
  pub reached : run trees frames events ≡ Some state
  pub racy : IsRacy trees frames state

-- the line of a race of the state to which they lead
pub record IsReachedRaceLine (trees : Program) (frames : ℕ) (events : List Event) (line : List ℕ) : Type 0 where
  pub state : State
  pub reached : run trees frames events ≡ Some state
  pub race : Race
  pub is : IsRaceOfState trees frames state race
  pub spelled : IsRaceLine trees race line

-- of the state to which the events led that a machine has done, where that is racy
abbrev pub TellsLine : Program → MachineOf → List ℕ → Type 0
TellsLine trees m line =
    (files : List (List ℕ)) (events : List Event) (state : State) → HasDone m files trees events → run trees m.limits.frames events ≡ Some state
    → IsRacy trees m.limits.frames state → IsReachedRaceLine trees m.limits.frames events line
