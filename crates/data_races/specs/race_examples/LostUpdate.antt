-- Two threads that add 1 to a static field with no monitor.
use Rattle.std.specs.Prelude.{◌≡◌, [], ◌∷◌, ◌++◌, true, false}
use Rattle.run_laws.specs.examples.LostUpdate.{files}
use Rattle.data_races.specs.race_examples.Raced.{times, AreRacing, is_racy_after}

pub record LostUpdate : Type 0 where
  -- thread 1 reads in event 23 and writes in event 26, thread 2 in events 29 and 32; the reads don't race, nor does main's read
  pub one_after_the_other : AreRacing files (times 22 0 ++ times 6 1 ++ times 6 2 ++ times 8 0) ((23, 32) ∷ (26, 29) ∷ (26, 32) ∷ [])
  -- thread 1 is about to write, and thread 2 to read
  pub racy : is_racy_after files (times 22 0 ++ times 4 1 ++ times 1 2) ≡ true
  -- both are about to read
  pub not_yet : is_racy_after files (times 22 0 ++ times 1 1 ++ times 1 2) ≡ false
