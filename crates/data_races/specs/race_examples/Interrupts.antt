-- What an interrupt hands over, what a cleared one does, and that a thread is found started.
--     class Interrupted extends Thread {
--         int f;
--         public synchronized void run() { try { wait(); } catch (InterruptedException e) { System.out.println(f); } }
--         public static void main(String[] args) {
--             Interrupted u = new Interrupted();
--             u.start(); u.f = 1; u.interrupt();
--         }
--     }
--     class Cleared extends Thread {
--         int f;
--         public void run() { f = 1; interrupted(); }
--         public static void main(String[] args) {
--             Cleared u = new Cleared();
--             u.start(); u.interrupt();
--             while (u.isInterrupted()) Thread.yield();
--             System.out.println(u.f);
--         }
--     }
--     class Started extends Thread {
--         static Started u;
--         static int f;
--         boolean first;
--         public void run() { if (first) { u.interrupt(); if (u.isInterrupted()) System.out.println(f); } else f = 2; }
--         public static void main(String[] args) {
--             u = new Started();
--             Started t = new Started(); t.first = true;
--             t.start();
--             f = 1; u.start();
--         }
--     }
--     class Over extends Thread {
--         static Over u;
--         static int f;
--         public void run() { if (this == u) f = 1; else { u.interrupt(); if (!u.isInterrupted()) System.out.println(f); } }
--         public static void main(String[] args) {
--             u = new Over();
--             u.start(); new Over().start();
--         }
--     }
use Rattle.std.specs.Prelude.{[], ◌∷◌, ◌++◌}
use Rattle.data_races.specs.race_examples.Programs.{interrupted, cleared, started, over}
use Rattle.data_races.specs.race_examples.Raced.{times, AreRacing}

pub record Interrupts : Type 0 where
  -- main writes f in event 18 and interrupts thread 1 in 20, which reads f behind its InterruptedException
  pub found : AreRacing (interrupted ∷ []) (times 13 0 ++ times 3 1 ++ times 6 0 ++ times 6 1) []
  -- thread 1 writes f in event 18 and clears its status in 19; main finds it clear in 23 and reads f in 27
  pub found_cleared : AreRacing (cleared ∷ []) (times 15 0 ++ times 7 1 ++ times 6 0) []
  -- main writes f in event 24 and starts thread 2; thread 1 interrupts that, finds it interrupted, and reads f in 38
  pub found_started : AreRacing (started ∷ []) (times 28 0 ++ times 11 1) []
  -- thread 2 writes f in event 44
  pub written_behind : AreRacing (started ∷ []) (times 28 0 ++ times 11 1 ++ times 6 2) ((38, 44) ∷ [])
  -- thread 1 writes f in event 26 and ends; the interrupt of it in event 34 does nothing, and thread 2 reads f in 39
  pub found_ended : AreRacing (over ∷ []) (times 21 0 ++ times 8 1 ++ times 11 2) []
