-- Variables that are handed over: under a monitor, by wait and notify, by the start and the end of a thread.
--     class TwoLocks extends Thread {
--         static int n;
--         public synchronized void run() { n = n + 1; }
--         public static void main(String[] args) {
--             new TwoLocks().start(); new TwoLocks().start();
--         }
--     }
--     class Notified extends Thread {
--         int f;
--         public void run() { synchronized (Notified.class) { f = 1; Notified.class.notify(); } }
--         public static void main(String[] args) throws InterruptedException {
--             Notified u = new Notified();
--             synchronized (Notified.class) { u.start(); Notified.class.wait(); System.out.println(u.f); }
--         }
--     }
--     class Alive extends Thread {
--         int f;
--         public void run() { f = f + 1; }
--         public static void main(String[] args) {
--             Alive u = new Alive();
--             u.f = 1; u.start(); u.isAlive(); System.out.println(u.f);
--         }
--     }
--     class Ended extends Thread {
--         int r;
--         public void run() { r = 1; }
--         public static void main(String[] args) throws InterruptedException {
--             Ended u = new Ended();
--             synchronized (u) { u.start(); u.wait(); }
--             System.out.println(u.r);
--         }
--     }
use Rattle.std.specs.Prelude.{[], ◌∷◌, ◌++◌}
use Rattle.run_laws.specs.examples.CounterUnderLock as counter
use Rattle.data_races.specs.race_examples.Programs.{two_locks, notified, alive, ended}
use Rattle.data_races.specs.race_examples.Raced.{times, AreRacing}

pub record Locked : Type 0 where
  -- two threads count under one monitor, once each
  pub one_monitor : AreRacing counter.files (times 22 0 ++ times 19 1 ++ times 19 2) []
  -- each thread counts under a monitor of its own: thread 1 reads and writes in events 19 and 22, thread 2 in 25 and 28
  pub two_monitors : AreRacing (two_locks ∷ []) (times 18 0 ++ times 6 1 ++ times 6 2) ((19, 28) ∷ (22, 25) ∷ (22, 28) ∷ [])
  -- main reads f in event 35, behind its wait; thread 1 wrote it in 26 and notified
  pub notified_in_between : AreRacing (notified ∷ []) (times 19 0 ++ times 13 1 ++ times 5 0) []
  -- main reads f behind an isAlive in event 17 that answers 1: thread 1 writes f in 24, main reads it in 29
  pub still_alive : AreRacing (alive ∷ []) (times 18 0 ++ times 8 1 ++ times 5 0) ((24, 29) ∷ [])
  -- the isAlive in event 25 answers 0
  pub no_longer_alive : AreRacing (alive ∷ []) (times 17 0 ++ times 8 1 ++ times 6 0) []
  -- the end of thread 1 wakes main, which waits on its Thread object
  pub woken_by_the_end : AreRacing (ended ∷ []) (times 19 0 ++ times 5 1 ++ times 7 0) []
