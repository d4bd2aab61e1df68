-- Calls in Java, compiled as the program of JavaObjects, with three changes that javac would not make: C and S are compiled where I and P
-- declare no abstract method, so that C has no method a and S no method h; and the call `super.f()` of Q names P, the superclass of its
-- superclass (JVMS 6.5, invokespecial). It prints what java 17 prints.
--     interface I { int a(); }
--     abstract class P { int f() { return 1; } abstract int h(); private int k() { return 5; } int callK() { return k(); } }
--     class S extends P { int f() { return 2; } int h() { return 7; } private int k() { return 6; } }
--     class Q extends S { int f() { return 3; } int g() { Object o = P.class; return super.f(); } int callSuper() { return super.h(); } }
--     class C implements I { public int a() { return 4; } }
--     class M {
--         static void p(int n) { System.out.println(n); }
--         static void b(I i) { try { p(i.a()); } catch (AbstractMethodError e) { p(-1); } catch (IncompatibleClassChangeError e) { p(-2); } }
--         public static void main(String[] args) {
--             Q q = new Q();
--             p(q.g()); p(q.f()); p(q.callK());
--             try { p(q.callSuper()); } catch (AbstractMethodError e) { p(-3); }
--             b(new C());
--         }
--     }
use Rattle.std.specs.Prelude.{ℤ, pos, negsuc, List, [], ◌∷◌}
use Rattle.model.specs.Classes.{Program}
use Rattle.model.specs.Report as report
use Rattle.model.specs.Report.{ThreadEnd}
use Rattle.run_laws.specs.examples.JavaCallsClasses.{class_m, class_i, class_p, class_s, class_q, class_c}
use Rattle.run_laws.specs.examples.Schedulers.{Runs}

abbrev pub files : Program
files = class_m ∷ class_c ∷ class_i ∷ class_p ∷ class_q ∷ class_s ∷ []

-- what java prints
abbrev pub printed : List ℤ
printed =
    pos 2 ∷ pos 3 ∷ pos 5 ∷ negsuc 2 ∷ negsuc 0
    ∷ []

abbrev pub ends : List ThreadEnd
ends = report.Ended ∷ []

pub record JavaCalls : Type 0 where
  -- the only thread
  pub one_order : Runs files (0 ∷ []) 400 printed ends
