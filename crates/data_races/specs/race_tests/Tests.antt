-- What the test for races promises.
use Rattle.std.specs.Prelude.{ℕ, ◌↔◌, List}
use Rattle.run_laws.specs.interleavings.Ends.{Has}
use Rattle.model.specs.Classes.{Program}
use Rattle.data_races.specs.HappensBefore.{IsRace}
use Rattle.data_races.specs.Races.{ActionOfRun, memory_order}
use Rattle.data_races.specs.RaceTest.{races_of}

-- two actions of a run race exactly where the test lists their places
abbrev pub AreAllRacesFound : Type 0
AreAllRacesFound =
    (files : Program) (run : List ActionOfRun) (i j : ℕ) → IsRace (memory_order files) run i j ↔ Has (races_of (memory_order files) run) (i, j)
