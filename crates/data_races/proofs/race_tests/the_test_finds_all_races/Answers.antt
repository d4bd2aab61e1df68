use Rattle.data_races.specs.Races.{memory_order}
use Rattle.data_races.specs.RaceTest.{races_of}
use Rattle.data_races.proofs.Decided.{has_from_in, in_from_at, races_only, races_each}
use Rattle.data_races.proofs.race_tests.the_test_finds_all_races.Goals as goal

pub returns : goal.returns
returns c =
    record {
      holds = λ files run i j. (
        λ race. has_from_in (i, j) (races_of (memory_order files) run) (races_each (memory_order files) run i j race),
        λ h. races_only (memory_order files) run (i, j) (in_from_at (i, j) (races_of (memory_order files) run) h.0 h.1),
      );
    }
