-- A program in Java with objects, fields, arrays, calls, class initialisation and exceptions, compiled by javac 17 (with `--release 8
-- -g:none`, and the version then set to 49.0; frames of StackMapTable are left out). It prints what java 17 prints.
--     interface Shape { int K = Init.say(31); int area(int k); }
--     interface Named extends Shape { int name(); }
--     abstract class Base implements Shape {
--         int x = 5; byte b; short s; char c; boolean z;
--         static int count = Init.say(10);
--         Base() { x = x + 1; init(); }
--         void init() { System.out.println(x); }
--         abstract int twice();
--         private int hidden() { return 7; }
--         int callHidden() { return hidden(); }
--         static int stat(int a, Object o) { return o == null ? a : a + 1; }
--         public int area(int k) { return k * 2; }
--     }
--     class Init { static int say(int n) { System.out.println(n); return n; } }
--     class Square extends Base implements Named {
--         int x = 9;
--         static final int C = 77;
--         static int d = Init.say(20);
--         Square() { super(); System.out.println(x); }
--         void init() { System.out.println(100 + x); super.init(); }
--         int twice() { return 2 * x + super.x; }
--         private int hidden() { return 8; }
--         public int name() { return 3; }
--         public int area(int k) { return super.area(k) + 1; }
--     }
--     class Other implements Shape { public int area(int k) { return -k; } }
--     class MyEx extends RuntimeException { int v; MyEx(int v) { this.v = v; } }
--     class BadInit { static int q = 1 / Integer_zero.z(); static void f() {} }
--     class Integer_zero { static int z() { return 0; } }
--     class Lazy { static { System.out.println(55); } static int v; static final int K = 66; }
--     class M {
--         static int depth(int n) { return n == 0 ? 0 : 1 + depth(n - 1); }
--         static int tries(int k) {
--             try {
--                 if (k == 0) { int[] a = new int[2]; a[2] = 1; }
--                 if (k == 1) { int[] a = new int[-1]; }
--                 if (k == 2) { Object[] a = new Square[1]; a[0] = new Object(); }
--                 if (k == 3) { Object o = new Object(); Square s = (Square) o; }
--                 if (k == 4) { Square s = null; s.x = 1; }
--                 if (k == 5) { throw new MyEx(42); }
--                 if (k == 6) { int d = 0; d = 3 % d; }
--                 if (k == 7) { int[] a = null; a[-1] = 0; }
--                 if (k == 8) { synchronized (n()) { } }
--                 if (k == 9) { throw n2(); }
--                 if (k == 10) { BadInit.f(); }
--                 if (k == 11) { BadInit.f(); }
--                 if (k == 12) { Object o = new int[1]; Object[] a = (Object[]) o; }
--                 if (k == 13) { Shape s = null; s.area(1); }
--                 if (k == 14) { new Object().wait(); }
--                 if (k == 15) { byte[] a = new byte[1]; a[1] = 3; }
--                 if (k == 16) { Object[] a = new Shape[2]; a[0] = new Other(); a[1] = "t"; }
--                 if (k == 17) { return 1000; }
--                 if (k == 18) { Thread t = new Thread(); t.start(); t.join(); t.start(); }
--                 if (k == 19) { Thread.currentThread().interrupt(); synchronized (M.class) { M.class.wait(); } }
--             } catch (ArrayIndexOutOfBoundsException e) { return 1;
--             } catch (NegativeArraySizeException e) { return 2;
--             } catch (ArrayStoreException e) { return 3;
--             } catch (ClassCastException e) { return 4;
--             } catch (NullPointerException e) { return 5;
--             } catch (MyEx e) { return e.v;
--             } catch (ArithmeticException e) { return 6;
--             } catch (ExceptionInInitializerError e) { return 7;
--             } catch (LinkageError e) { return 8;
--             } catch (IllegalMonitorStateException e) { return 9;
--             } catch (IllegalThreadStateException e) { return 11;
--             } catch (InterruptedException e) { return Thread.interrupted() ? 13 : 12;
--             } finally { System.out.println(-k); }
--             return 0;
--         }
--         static Object n() { return null; }
--         static RuntimeException n2() { return null; }
--         static void p(int n) { System.out.println(n); }
--         static void p(boolean b) { System.out.println(b ? 1 : 0); }
--         public static void main(String[] args) {
--             p(args.length);
--             p(Lazy.K);
--             Lazy.v = 3;
--             p(Lazy.v);
--             Square q = new Square();
--             Base b = q;
--             Shape s = q;
--             p(q.x); p(b.x); p(b.twice()); p(b.callHidden()); p(s.area(4)); p(q.name()); p(Base.stat(1, null)); p(Square.stat(1, q));
--             p(Square.C); p(Square.count);
--             q.b = (byte) 200; q.s = (short) 40000; q.c = (char) -1; q.z = true;
--             p(q.b); p(q.s); p(q.c); p(q.z);
--             byte[] bs = new byte[3]; bs[1] = (byte) 300; p(bs[1]); p(bs.length);
--             char[] cs = new char[1]; cs[0] = (char) 70000; p(cs[0]);
--             short[] ss = new short[1]; ss[0] = (short) 70000; p(ss[0]);
--             boolean[] zs = new boolean[2]; zs[1] = true; p(zs[0]); p(zs[1]);
--             int[] is = new int[4]; for (int i = 0; i < is.length; i++) is[i] = i * i; p(is[3]);
--             Shape[] sh = new Shape[2]; sh[0] = q; sh[1] = new Other();
--             for (int i = 0; i < 2; i++) p(sh[i].area(10));
--             int[][] two = new int[2][]; two[1] = is; p(two[1][2]); p(two[0] == null);
--             Object o = two;
--             p(o instanceof Object[]); p(o instanceof int[][]); p(o instanceof int[]); p((Object) q instanceof Named); p((Object) q instanceof Runnable); p(null instanceof Object);
--             p(sh instanceof Object[]); p((Object) sh instanceof Base[]);
--             p((Object) "abc" == (Object) "abc"); p((Object) "abc" == (Object) "abd");
--             p((Object) M.class == (Object) M.class); p((Object) M.class == (Object) Base.class);
--             p(depth(20));
--             for (int k = 0; k <= 19; k++) { int r = 0; try { r = tries(k); } catch (StackOverflowError e) { r = -1; } p(r); }
--             long_switch(3); long_switch(-5); long_switch(1000);
--             int i = 0; i += 3; i <<= 4; i ^= 5; i = ~i; p(i); p(i >>> 28); p(i >> 2); p(-7 / 2); p(-7 % 2);
--             sync();
--             p(new Object() == new Object());
--             Runnable r = new Run(); new Thread(r).run();
--             Thread t = new Thread(r); p(t.isAlive()); t.start(); try { t.join(); } catch (InterruptedException e) { } p(t.isAlive()); p(t.isInterrupted());
--             p(Thread.currentThread() == t); Thread.yield();
--             Thread.currentThread().interrupt(); p(Thread.currentThread().isInterrupted()); p(Thread.interrupted()); p(Thread.interrupted());
--             new Sub().start();
--         }
--         static synchronized void sync() { synchronized (M.class) { p(88); } M.class.notifyAll(); M.class.notify(); }
--         static void long_switch(int n) { switch (n) { case 1: p(1); case 2: p(2); case 3: p(33); case 4: p(4); break; case 1000: p(5); break; default: p(6); } }
--     }
--     class Run implements Runnable { public void run() { System.out.println(99); } }
--     class Sub extends Thread { public synchronized void run() { System.out.println(98); throw new MyEx(1); } }
use Rattle.std.specs.Prelude.{ℤ, pos, negsuc, List, [], ◌∷◌, codes}
use Rattle.model.specs.Classes.{Program}
use Rattle.model.specs.Report as report
use Rattle.model.specs.Report.{ThreadEnd}
use Rattle.run_laws.specs.examples.JavaObjectsMain.{class_m}
use Rattle.run_laws.specs.examples.JavaObjectsClasses.{class_badinit, class_base, class_init, class_integer_zero, class_lazy, class_myex, class_named, class_other, class_run, class_shape, class_square, class_sub}
use Rattle.run_laws.specs.examples.Schedulers.{Runs}

abbrev pub files : Program
files = class_m ∷ class_badinit ∷ class_base ∷ class_init ∷ class_integer_zero ∷ class_lazy ∷ class_myex ∷ class_named ∷ class_other ∷ class_run ∷ class_shape ∷ class_square ∷ class_sub ∷ []

-- what java prints
abbrev pub printed : List ℤ
printed =
    pos 0 ∷ pos 66 ∷ pos 55 ∷ pos 3 ∷ pos 10 ∷ pos 20 ∷ pos 100 ∷ pos 6 ∷ pos 9 ∷ pos 9 ∷ pos 6 ∷ pos 24
    ∷ pos 7 ∷ pos 9 ∷ pos 3 ∷ pos 1 ∷ pos 2 ∷ pos 77 ∷ pos 10 ∷ negsuc 55 ∷ negsuc 25535 ∷ pos 65535 ∷ pos 1 ∷ pos 44
    ∷ pos 3 ∷ pos 4464 ∷ pos 4464 ∷ pos 0 ∷ pos 1 ∷ pos 9 ∷ pos 21 ∷ negsuc 9 ∷ pos 4 ∷ pos 1 ∷ pos 1 ∷ pos 1
    ∷ pos 0 ∷ pos 1 ∷ pos 0 ∷ pos 0 ∷ pos 1 ∷ pos 0 ∷ pos 1 ∷ pos 0 ∷ pos 1 ∷ pos 0 ∷ pos 20 ∷ pos 0
    ∷ pos 1 ∷ negsuc 0 ∷ pos 2 ∷ negsuc 1 ∷ pos 3 ∷ negsuc 2 ∷ pos 4 ∷ negsuc 3 ∷ pos 5 ∷ negsuc 4 ∷ pos 42 ∷ negsuc 5
    ∷ pos 6 ∷ negsuc 6 ∷ pos 5 ∷ negsuc 7 ∷ pos 5 ∷ negsuc 8 ∷ pos 5 ∷ negsuc 9 ∷ pos 7 ∷ negsuc 10 ∷ pos 8 ∷ negsuc 11
    ∷ pos 4 ∷ negsuc 12 ∷ pos 5 ∷ negsuc 13 ∷ pos 9 ∷ negsuc 14 ∷ pos 1 ∷ negsuc 15 ∷ pos 3 ∷ negsuc 16 ∷ pos 1000 ∷ negsuc 17
    ∷ pos 11 ∷ negsuc 18 ∷ pos 12 ∷ pos 33 ∷ pos 4 ∷ pos 6 ∷ pos 5 ∷ negsuc 53 ∷ pos 15 ∷ negsuc 13 ∷ negsuc 2 ∷ negsuc 0
    ∷ pos 88 ∷ pos 0 ∷ pos 99 ∷ pos 0 ∷ pos 99 ∷ pos 0 ∷ pos 0 ∷ pos 0 ∷ pos 1 ∷ pos 1 ∷ pos 0 ∷ pos 98
    ∷ []

abbrev pub ends : List ThreadEnd
ends = report.Ended ∷ report.Ended ∷ report.Ended ∷ report.Threw (codes "MyEx") ∷ []

pub record JavaObjects : Type 0 where
  -- threads in the order of their numbers
  pub one_order : Runs files (0 ∷ 1 ∷ 2 ∷ 3 ∷ []) 6000 printed ends
