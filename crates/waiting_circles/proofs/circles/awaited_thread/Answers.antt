use Rattle.std.proofs.Common.{Some, None, refl}
use Rattle.waiting_circles.proofs.circles.Awaiting.{needs_none, held_by_none, held_by_it, held_by_other}
use Rattle.waiting_circles.proofs.circles.awaited_thread.Goals as goal

pub returns-in_default : goal.returns-in_default
returns-in_default c = λ trees bounds inflated state program shown.
    needs_none trees c.args.frames state c.args.thread (c.in_default.ensures trees bounds inflated state program shown)

pub returns-then-other-thread : goal.returns-then-other-thread
returns-then-other-thread c = λ trees bounds inflated state program shown.
    held_by_it trees c.args.frames state c.args.thread c.in-Some.need (c.in-Some.ensures trees bounds inflated state program shown) (Some c.in-Some-holder.other)
    (λ is told. c.in-Some-holder.ensures trees c.args.program.now bounds state.world program shown.represents is told) c.in-Some-holder.other refl c.if-other-thread.true

pub returns-else-other-thread : goal.returns-else-other-thread
returns-else-other-thread c = λ trees bounds inflated state program shown.
    held_by_other trees c.args.frames state c.args.thread c.in-Some.need (c.in-Some.ensures trees bounds inflated state program shown) (Some c.in-Some-holder.other)
    (λ is told. c.in-Some-holder.ensures trees c.args.program.now bounds state.world program shown.represents is told) c.in-Some-holder.other refl c.if-other-thread.false

pub returns-in-None : goal.returns-in-None
returns-in-None c = λ trees bounds inflated state program shown.
    held_by_none trees c.args.frames state c.args.thread c.in-Some.need (c.in-Some.ensures trees bounds inflated state program shown) None
    (λ is told. c.in-None.ensures trees c.args.program.now bounds state.world program shown.represents is told) refl
