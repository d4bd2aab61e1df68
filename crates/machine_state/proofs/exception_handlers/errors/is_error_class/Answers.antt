use Rattle.std.proofs.Common.{◌≡◌, ◌-◌, ◌+◌, suc, subst, arith, true, false}
use Rattle.std.specs.Prelude.{◌==◌}
use Rattle.std.proofs.lemmas.Bool.Decides.{nat_tests}
use Rattle.machine_state.proofs.exception_handlers.Climbing.{Climbs, begins, found, ends, is_top, goes_up}
use Rattle.machine_state.proofs.exception_handlers.errors.is_error_class.Goals as goal

-- src/exception_handlers/errors.rt
pub loop-init : goal.loop-init
loop-init c =
    subst (Climbs c.args.program.now c.args.class c.args.class) (omega (arith, c.len-end.ensures))
    (begins c.classes_are_read.ensures.holds c.args.program.now c.args.class)

-- src/exception_handlers/errors.rt
pub returns-then-nearest : goal.returns-then-nearest
returns-then-nearest c =
    let is : (c.loop.nearest == 8) ≡ true = grind (arith, nat_tests, c.if-nearest.true) in
    found c.classes_are_read.ensures.holds c.args.program.now c.args.class c.loop.nearest (c.len-end.result - c.loop.counter) c.loop.invariant is

-- src/exception_handlers/errors.rt
pub returns-in-None : goal.returns-in-None
returns-in-None c =
    let left : c.len-end.result - c.loop.counter ≡ suc (c.len-end.result - suc c.loop.counter) = omega (arith, c.loop-test.true) in
    let not : (c.loop.nearest == 8) ≡ false = grind (arith, nat_tests, c.if-nearest.false) in
    is_top c.classes_are_read.ensures.holds c.args.program.now c.args.class c.loop.nearest (c.len-end.result - suc c.loop.counter)
    (subst (Climbs c.args.program.now c.args.class c.loop.nearest) left c.loop.invariant) not c.in-None.ensures

-- src/exception_handlers/errors.rt
pub loop-preserved : goal.loop-preserved
loop-preserved c =
    let left : c.len-end.result - c.loop.counter ≡ suc (c.len-end.result - (c.loop.counter + 1)) = omega (arith, c.loop-test.true) in
    let not : (c.loop.nearest == 8) ≡ false = grind (arith, nat_tests, c.if-nearest.false) in
    goes_up c.classes_are_read.ensures.holds c.args.program.now c.args.class c.loop.nearest (c.len-end.result - (c.loop.counter + 1)) c.in-Some.above
    (subst (Climbs c.args.program.now c.args.class c.loop.nearest) left c.loop.invariant) not c.in-Some.ensures

-- src/exception_handlers/errors.rt
pub returns : goal.returns
returns c =
    let none : c.len-end.result - c.loop.counter ≡ 0 = omega (arith, c.loop-test.false) in
    ends c.classes_are_read.ensures.holds c.args.program.now c.args.class c.loop.nearest
    (subst (Climbs c.args.program.now c.args.class c.loop.nearest) none c.loop.invariant)
