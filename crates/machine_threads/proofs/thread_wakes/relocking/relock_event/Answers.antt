use Rattle.std.proofs.Common.{refl, ap}
use Rattle.heap.specs.java_threads.Statuses.{cause_of}
use Rattle.machine_threads.proofs.thread_wakes.Woken.{allowed, returns, refused, allowed_then, throws_then}
use Rattle.machine_threads.proofs.thread_wakes.relocking.relock_event.Goals as goal

-- src/relocking.rt:46:9
pub is_free-requires : goal.is_free-requires
is_free-requires c =
    (allowed c.requires.trees c.args.program.now c.requires.bounds c.requires.inflated c.args.thread c.args.object c.args.count (cause_of c.args.cause) c.args.shared.now c.args.stack.now c.requires.state c.requires.own c.requires.left c.requires.numbered).0

-- src/relocking.rt:51:13
pub relock-requires : goal.relock-requires
relock-requires c =
    allowed c.requires.trees c.args.program.now c.requires.bounds c.requires.inflated c.args.thread c.args.object c.args.count (cause_of c.args.cause) c.args.shared.now c.args.stack.now c.requires.state c.requires.own c.requires.left c.requires.numbered

-- src/relocking.rt:57:13
pub returns-in_err-raise_interrupt-in-Interrupted : goal.returns-in_err-raise_interrupt-in-Interrupted
returns-in_err-raise_interrupt-in-Interrupted c = λ trees bounds inflated state own left.
    refused trees c.args.program.now bounds inflated c.args.thread c.args.object c.args.count (cause_of c.args.cause) c.args.shared.now c.args.stack.now state own left
    (ap cause_of c.in-Interrupted.is) (c.if-not-is_free.ensures c.args.thread c.args.count) c.in_err-raise_interrupt-in-Interrupted.field-0.0 c.raise_interrupt.new.shared
    (c.in_err-raise_interrupt-in-Interrupted.ensures trees c.args.program.now bounds inflated state.world left.lent.represents c.args.stack.now own left.lent.shows_stack)
    c.from_residual.result c.from_residual.ensures.1

-- src/relocking.rt:58:13
pub relock-requires-in-Interrupted : goal.relock-requires-in-Interrupted
relock-requires-in-Interrupted c =
    allowed_then c.requires.trees c.args.program.now c.requires.bounds c.requires.inflated c.args.thread c.args.object c.args.count (cause_of c.args.cause) c.args.shared.now c.args.stack.now c.requires.state c.requires.own c.requires.left
    (ap cause_of c.in-Interrupted.is) (c.if-not-is_free.ensures c.args.thread c.args.count) c.raise_interrupt.new.shared c.in_ok-raise_interrupt-in-Interrupted.field-0
    (c.in_ok-raise_interrupt-in-Interrupted.ensures c.requires.trees c.args.program.now c.requires.bounds c.requires.inflated c.requires.state.world c.requires.left.lent.represents c.args.stack.now c.requires.own c.requires.left.lent.shows_stack)
    c.requires.numbered

-- src/relocking.rt:34:1
pub returns-in-Notified : goal.returns-in-Notified
returns-in-Notified c = λ trees bounds inflated state own left.
    returns trees c.args.program.now bounds inflated c.args.thread c.args.object c.args.count (cause_of c.args.cause) c.args.shared.now c.args.stack.now state own left
    (ap cause_of c.in-Notified.is) (c.if-not-is_free.ensures c.args.thread c.args.count) (record c.args.shared.now { heap = c.relock.new.heap; threads = c.relock.new.threads })
    c.relock.result c.relock.ensures refl c.next_place_of_top-next.result c.next_place_of_top-next.ensures c.go_on.new.self c.go_on.ensures

-- src/relocking.rt:34:1
pub returns-in_ok-raise_interrupt-in-Interrupted : goal.returns-in_ok-raise_interrupt-in-Interrupted
returns-in_ok-raise_interrupt-in-Interrupted c = λ trees bounds inflated state own left.
    throws_then trees c.args.program.now bounds inflated c.args.thread c.args.object c.args.count (cause_of c.args.cause) c.args.shared.now c.args.stack.now state own left
    (ap cause_of c.in-Interrupted.is) (c.if-not-is_free.ensures c.args.thread c.args.count) c.raise_interrupt.new.shared c.in_ok-raise_interrupt-in-Interrupted.field-0
    (c.in_ok-raise_interrupt-in-Interrupted.ensures trees c.args.program.now bounds inflated state.world left.lent.represents c.args.stack.now own left.lent.shows_stack)
    (allowed trees c.args.program.now bounds inflated c.args.thread c.args.object c.args.count (cause_of c.args.cause) c.args.shared.now c.args.stack.now state own left c.requires.numbered).0
    (record c.raise_interrupt.new.shared { heap = c.relock-in-Interrupted.new.heap; threads = c.relock-in-Interrupted.new.threads })
    c.relock-in-Interrupted.result c.relock-in-Interrupted.ensures refl
