-- What the initialiser of a class hands over, and to whom.
--     class Needs extends Thread {
--         static class C { static int f = new Object() == null ? 0 : 1; static { Needs.g = 2; } }
--         static int g;
--         public void run() { System.out.println(C.f); System.out.println(g); }
--         public static void main(String[] args) {
--             new Needs().start();
--             System.out.println(g); System.out.println(C.f); System.out.println(g);
--         }
--     }
--     class Below extends Thread {
--         static class C { static { Below.f = 1; } static void touch() { } }
--         static class D extends C { static int d = Below.f; static void use() { } }
--         static int f;
--         public void run() { C.touch(); }
--         public static void main(String[] args) {
--             new Below().start();
--             D.use();
--         }
--     }
use Rattle.std.specs.Prelude.{[], ◌∷◌, ◌++◌}
use Rattle.data_races.specs.race_examples.Programs.{needs, needed, below, below_c, below_d}
use Rattle.data_races.specs.race_examples.Raced.{times, AreRacing}

pub record Initialised : Type 0 where
  -- Thread 1 initialises C, which writes C.f in event 24 and g in 26. Main reads g in 12, before it needs C, then C.f in 35 and g in 38.
  pub who_needs_it : AreRacing (needs ∷ needed ∷ []) (times 15 0 ++ times 20 1 ++ times 4 0) ((12, 26) ∷ [])
  -- thread 1 initialises C, which writes f in event 16; the initialiser of D, below C, reads it in 20
  pub below_it : AreRacing (below ∷ below_c ∷ below_d ∷ []) (times 12 0 ++ times 7 1 ++ times 4 0) []
