-- Threads that write elements of one array.
--     class Elements extends Thread {
--         static int[] a;
--         int i;
--         public void run() { a[i] = 1; }
--         public static void main(String[] args) {
--             a = new int[2];
--             Elements t = new Elements(), u = new Elements(), v = new Elements();
--             v.i = 1; t.start(); u.start(); v.start();
--         }
--     }
use Rattle.std.specs.Prelude.{[], ◌∷◌, ◌++◌}
use Rattle.model.specs.Tree.{FileTree}
use Rattle.run_laws.specs.examples.ClassFiles.{field}
use Rattle.data_races.specs.race_examples.Programs.{elements}
use Rattle.data_races.specs.race_examples.Raced.{times, AreRacing}

-- with `static volatile int[] a`
abbrev pub volatile_array : FileTree
volatile_array = record elements { fields = field 0x0048 11 12 [] ∷ field 0x0000 15 16 [] ∷ [] }

pub record Elements : Type 0 where
  -- threads 1 and 2 write element 0 in events 43 and 49, thread 3 element 1 in 55
  pub one_element : AreRacing (elements ∷ []) (times 38 0 ++ times 6 1 ++ times 6 2 ++ times 6 3) ((43, 49) ∷ [])
  -- a volatile field makes no element volatile
  pub volatile : AreRacing (volatile_array ∷ []) (times 38 0 ++ times 6 1 ++ times 6 2 ++ times 6 3) ((43, 49) ∷ [])
