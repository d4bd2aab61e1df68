-- A flag that a thread spins on.
--     class Flag extends Thread {
--         static boolean ready;
--         static int x;
--         public void run() { x = 1; ready = true; }
--         public static void main(String[] args) {
--             new Flag().start();
--             while (!ready) Thread.yield();
--             System.out.println(x);
--         }
--     }
use Rattle.std.specs.Prelude.{List, [], ◌∷◌, ◌++◌}
use Rattle.model.specs.declared.event.Event.{Event}
use Rattle.model.specs.Tree.{FileTree}
use Rattle.run_laws.specs.examples.ClassFiles.{field}
use Rattle.data_races.specs.race_examples.Programs.{flag}
use Rattle.data_races.specs.race_examples.Raced.{times, AreRacing}

-- with `static volatile boolean ready`
abbrev pub volatile_flag : FileTree
volatile_flag = record flag { fields = field 0x0048 15 16 [] ∷ field 0x0008 11 12 [] ∷ [] }

-- main reads `ready` once before thread 1 writes x in event 14 and `ready` in 16, and once behind that, in 21; it reads x in 24
abbrev pub events : List Event
events = times 12 0 ++ times 6 1 ++ times 7 0

pub record Flags : Type 0 where
  pub plain : AreRacing (flag ∷ []) events ((11, 16) ∷ (14, 24) ∷ (16, 21) ∷ [])
  pub volatile : AreRacing (volatile_flag ∷ []) events []
