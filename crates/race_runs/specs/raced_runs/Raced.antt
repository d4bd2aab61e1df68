-- The races of a run that is told (JLS 17.4.5), each with the places in code of its accesses.
use Rattle.std.specs.Prelude.{◌≡◌, List, [], ◌∷◌, Bool, true, false}
use Rattle.model.specs.declared.event.Event.{Event}
use Rattle.model.specs.declared.limits.Limits.{Limits}
use Rattle.model.specs.Classes.{Program}
use Rattle.machine.specs.machine_replay.Replays.{IsReplay}
use Rattle.run_races.specs.declared.told_races.Race.{Race}
use Rattle.run_races.specs.named_races.Named.{AreRaces}
use Rattle.race_runs.specs.declared.raced_runs.RacedRun.{RacedRun}
use Rattle.race_runs.specs.race_lines.Lines.{AreRaceLines}

abbrev pub is_any : List Race → Bool
is_any [] = false
is_any (race ∷ races) = true

-- a replay, and the races of the events that it did
pub record IsRacedRun (trees : Program) (events : List Event) (limits : Limits) (r : RacedRun) : Type 0 where
  pub replay : IsReplay trees events limits r.report r.end
  pub told : List Race
  pub races : AreRaces trees limits.frames replay.front told
  pub has_race : r.has_race ≡ is_any told
  pub spelled : AreRaceLines trees told r.lines.items
