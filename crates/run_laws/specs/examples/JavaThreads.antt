-- A program in Java with threads, monitors, wait sets and interrupts, compiled as that of JavaObjects. It prints what java 17 prints.
--     class Box {
--         int value; boolean full;
--         synchronized void put(int v) throws InterruptedException { while (full) wait(); value = v; full = true; notifyAll(); }
--         synchronized int take() throws InterruptedException { while (!full) wait(); full = false; notifyAll(); return value; }
--     }
--     class Producer extends Thread {
--         Box box; int from; int n;
--         Producer(Box box, int from) { this.box = box; this.from = from; n = from == 10 ? 4 : 1; }
--         public void run() { try { for (int i = 0; i < n; i++) box.put(from + i); } catch (InterruptedException e) { System.out.println(-1); } }
--     }
--     class Poker extends Thread {
--         Thread target; Box done;
--         Poker(Thread t, Box done) { target = t; this.done = done; }
--         public void run() { target.interrupt(); try { done.take(); } catch (InterruptedException e) { } }
--     }
--     class Counter extends Thread {
--         static int n;
--         static synchronized void inc() { n = n + 1; }
--         public void run() { for (int i = 0; i < 5; i++) { if (i % 2 == 0) inc(); else synchronized (Counter.class) { n = n + 1; } } }
--     }
--     class Waiter implements Runnable {
--         public void run() {
--             synchronized (this) {
--                 try { wait(); System.out.println(-2); } catch (InterruptedException e) { M.p(Thread.currentThread().isInterrupted()); }
--             }
--         }
--     }
--     class Boom extends Thread {
--         static synchronized void f() { int[] a = new int[0]; a[0]++; }
--         public void run() { try { f(); } catch (ArrayIndexOutOfBoundsException e) { M.p(5); } synchronized (Boom.class) { M.p(6); } throw null; }
--     }
--     class Slow { static { M.p(70); M.started = true; } static void touch() { M.p(71); } }
--     class Toucher extends Thread { public void run() { Slow.touch(); } }
--     class M {
--         static boolean started;
--         static void p(int n) { System.out.println(n); }
--         static void p(boolean b) { System.out.println(b ? 1 : 0); }
--         public static void main(String[] args) throws InterruptedException {
--             Box box = new Box();
--             Producer a = new Producer(box, 10); a.start();
--             for (int i = 0; i < 4; i++) p(box.take());
--             a.join(); p(a.isAlive());
--             Box done = new Box();
--             Poker k = new Poker(Thread.currentThread(), done); k.start();
--             try { k.join(); p(-3); } catch (InterruptedException e) { p(41); p(Thread.currentThread().isInterrupted()); }
--             done.put(1); k.join();
--             Counter[] cs = new Counter[2];
--             for (int i = 0; i < 2; i++) { cs[i] = new Counter(); cs[i].start(); }
--             for (int i = 0; i < 2; i++) cs[i].join();
--             p(Counter.n);
--             Thread w = new Thread(new Waiter()); w.start(); w.interrupt(); w.join();
--             Boom b = new Boom(); b.start(); b.join();
--             Toucher t = new Toucher(), u = new Toucher(); t.start(); u.start(); t.join(); u.join();
--             p(started);
--             Thread x = new Producer(box, 20); synchronized (x) { x.start(); x.wait(); } p(x.isAlive()); p(box.full);
--         }
--     }
use Rattle.std.specs.Prelude.{ℤ, pos, List, [], ◌∷◌, codes}
use Rattle.model.specs.Classes.{Program}
use Rattle.model.specs.Report as report
use Rattle.model.specs.Report.{ThreadEnd}
use Rattle.run_laws.specs.examples.JavaThreadsClasses.{class_m, class_boom, class_box, class_counter, class_poker, class_producer, class_slow, class_toucher, class_waiter}
use Rattle.run_laws.specs.examples.Schedulers.{Runs}

abbrev pub files : Program
files = class_m ∷ class_boom ∷ class_box ∷ class_counter ∷ class_poker ∷ class_producer ∷ class_slow ∷ class_toucher ∷ class_waiter ∷ []

-- what java prints
abbrev pub printed : List ℤ
printed =
    pos 10 ∷ pos 11 ∷ pos 12 ∷ pos 13 ∷ pos 0 ∷ pos 41 ∷ pos 0 ∷ pos 10 ∷ pos 0 ∷ pos 5 ∷ pos 6 ∷ pos 70
    ∷ pos 71 ∷ pos 71 ∷ pos 1 ∷ pos 0 ∷ pos 1
    ∷ []

abbrev pub ends : List ThreadEnd
ends = report.Ended ∷ report.Ended ∷ report.Ended ∷ report.Ended ∷ report.Ended ∷ report.Ended ∷ report.Threw (codes "java/lang/NullPointerException") ∷ report.Ended ∷ report.Ended ∷ report.Ended ∷ []

pub record JavaThreads : Type 0 where
  -- threads in the order of their numbers
  pub one_order : Runs files (0 ∷ 1 ∷ 2 ∷ 3 ∷ 4 ∷ 5 ∷ 6 ∷ 7 ∷ 8 ∷ 9 ∷ []) 5000 printed ends
  -- threads in another order
  pub another_order : Runs files (5 ∷ 3 ∷ 8 ∷ 1 ∷ 0 ∷ 9 ∷ 2 ∷ 6 ∷ 4 ∷ 7 ∷ []) 5000 printed ends
