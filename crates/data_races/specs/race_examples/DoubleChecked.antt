-- Double-checked locking.
--     class Lazy extends Thread {
--         static Lazy only;
--         int v;
--         static Lazy only() {
--             if (only == null) synchronized (Lazy.class) { if (only == null) { Lazy l = new Lazy(); l.v = 1; only = l; } }
--             return only;
--         }
--         public void run() { System.out.println(only().v); }
--         public static void main(String[] args) {
--             new Lazy().start(); System.out.println(only().v);
--         }
--     }
use Rattle.std.specs.Prelude.{[], ◌∷◌, ◌++◌}
use Rattle.model.specs.Tree.{FileTree}
use Rattle.run_laws.specs.examples.ClassFiles.{field}
use Rattle.data_races.specs.race_examples.Programs.{lazy}
use Rattle.data_races.specs.race_examples.Raced.{times, AreRacing}

-- with `static volatile Lazy only`
abbrev pub volatile_lazy : FileTree
volatile_lazy = record lazy { fields = field 0x0048 11 12 [] ∷ field 0x0000 16 17 [] ∷ [] }

pub record DoubleChecked : Type 0 where
  -- thread 1 makes the object: it writes v in event 31 and `only` in 33; main reads `only` in 44 and 46, and v in 48
  pub plain : AreRacing (lazy ∷ []) (times 11 0 ++ times 31 1 ++ times 7 0) ((31, 48) ∷ (33, 44) ∷ (33, 46) ∷ [])
  pub volatile : AreRacing (volatile_lazy ∷ []) (times 11 0 ++ times 31 1 ++ times 7 0) []
