use Rattle.std.proofs.Common.{◌≡◌, subst, arith}
use Rattle.place_runs.specs.Shown.{IsShownAt}
use Rattle.place_runs.proofs.Going.{begins, gives_up, stops, falls, goes_on, arrives}
use Rattle.place_runs.proofs.going_on.go_on.Goals as goal

pub events-init : goal.events-init
events-init c = λ place. λ are. begins c.args.thread place c.args.budget c.args.world.now c.requires

pub returns-then-budget-count : goal.returns-then-budget-count
returns-then-budget-count c = λ place. λ are.
    gives_up c.args.thread place c.args.budget c.args.world.now c.events.world (c.events.invariant place are) (omega (arith, c.if-budget-count.true, c.count-count.ensures))

pub returns-then-done-eq0 : goal.returns-then-done-eq0
returns-then-done-eq0 c = λ place. λ are.
    stops c.args.thread place c.args.budget c.args.world.now c.events.world (c.events.invariant place are) c.in_ok-done.done c.in_ok-done.why c.repeat.new.self c.in_ok-done.ensures.done
    c.end.ensures.holds.within c.if-done-eq0.true c.in_ok-told.told c.in_ok-told.ensures.same.0 c.in_ok-told.ensures.same.1

pub returns-then-is_there : goal.returns-then-is_there
returns-then-is_there c = λ place. λ are.
    arrives c.args.thread place c.args.budget c.args.world.now c.events.world (c.events.invariant place are) c.in_ok-done.done c.in_ok-done.why c.repeat.new.self c.in_ok-done.ensures.done
    (omega (arith, c.if-budget-count.false, c.count-count.ensures)) c.if-done-eq0.false c.args.points.now are c.stands_at-is_there.result
    (subst (λ m. IsShownAt m c.args.thread c.args.points.now c.stands_at-is_there.result) c.machine.ensures c.stands_at-is_there.ensures)
    c.if-is_there.true

pub events-preserved : goal.events-preserved
events-preserved c = λ place. λ are.
    goes_on c.args.thread place c.args.budget c.args.world.now c.events.world (c.events.invariant place are) c.in_ok-done.done c.in_ok-done.why c.repeat.new.self c.in_ok-done.ensures.done
    (omega (arith, c.if-budget-count.false, c.count-count.ensures)) c.if-done-eq0.false c.args.points.now are c.stands_at-is_there.result
    (subst (λ m. IsShownAt m c.args.thread c.args.points.now c.stands_at-is_there.result) c.machine.ensures c.stands_at-is_there.ensures)
    c.if-is_there.false

pub events-smaller : goal.events-smaller
events-smaller c = falls c.args.thread c.in_ok-done.done c.in_ok-done.why c.events.world c.repeat.new.self c.in_ok-done.ensures.done c.if-done-eq0.false
