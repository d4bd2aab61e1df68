-- A program in Java, compiled as that of JavaObjects, whose threads all wait in the end: main in a join, thread 1 in a wait set, 2 at a
-- synchronized method, 3 at a monitorenter, 4 in a wait set while it initialises Slow, 5 for Slow, 6 for Slow as the superclass of Below,
-- and 7 for its own synchronized run.
--     class Waits extends Thread { public void run() { try { synchronized (this) { wait(); } } catch (InterruptedException e) { } } }
--     class Calls extends Thread { static synchronized void f() { } public void run() { f(); } }
--     class Enters extends Thread { public void run() { synchronized (Calls.class) { } } }
--     class Slow { static int n; static { try { synchronized (Slow.class) { Slow.class.wait(); } } catch (InterruptedException e) { } } }
--     class Below extends Slow { static int k; }
--     class Touches extends Thread { public void run() { Slow.n = 1; } }
--     class TouchesBelow extends Thread { public void run() { Below.k = 1; } }
--     class Begins extends Thread { public synchronized void run() { } }
--     class M {
--         public static void main(String[] args) throws InterruptedException {
--             Begins b = new Begins();
--             synchronized (Calls.class) {
--                 synchronized (b) {
--                     Waits w = new Waits();
--                     w.start(); new Calls().start(); new Enters().start(); new Touches().start(); new Touches().start(); new TouchesBelow().start(); b.start();
--                     w.join();
--                 }
--             }
--         }
--     }
use Rattle.std.specs.Prelude.{ℤ, List, [], ◌∷◌}
use Rattle.model.specs.Classes.{Program}
use Rattle.model.specs.Report as report
use Rattle.model.specs.Report.{ThreadEnd}
use Rattle.run_laws.specs.examples.ThreadsThatWaitClasses.{class_m, class_waits, class_calls, class_enters, class_slow, class_below, class_touches, class_touchesbelow, class_begins}
use Rattle.run_laws.specs.examples.Schedulers.{Runs}

abbrev pub files : Program
files = class_m ∷ class_begins ∷ class_below ∷ class_calls ∷ class_enters ∷ class_slow ∷ class_touches ∷ class_touchesbelow ∷ class_waits ∷ []

-- nothing is printed
abbrev pub printed : List ℤ
printed = []

abbrev pub ends : List ThreadEnd
ends = report.Joining ∷ report.Waiting ∷ report.Blocked ∷ report.Blocked ∷ report.Waiting ∷ report.Initialising ∷ report.Initialising ∷ report.Blocked ∷ []

pub record ThreadsThatWait : Type 0 where
  -- threads in the order of their numbers
  pub one_order : Runs files (0 ∷ 1 ∷ 2 ∷ 3 ∷ 4 ∷ 5 ∷ 6 ∷ 7 ∷ []) 800 printed ends
