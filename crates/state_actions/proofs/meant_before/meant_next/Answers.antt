use Rattle.std.proofs.Common.{None, sym, subst}
use Rattle.thread_stacks.specs.Stacks.{shown_frame}
use Rattle.state_actions.specs.meant_before.Said.{MeansNext}
use Rattle.state_actions.proofs.meant_before.Ruling.{next_none, top_next, no_top_next}
use Rattle.state_actions.proofs.meant_before.meant_next.Goals as goal

pub returns-in_default : goal.returns-in_default
returns-in_default c = subst (λ i. MeansNext c.args.stack.now i None) (sym c.in_default.is) (next_none c.args.stack.now None)

pub returns-in-Some-frame : goal.returns-in-Some-frame
returns-in-Some-frame c =
    subst (λ i. MeansNext c.args.stack.now i c.meant_by.result) (sym c.in-Some.is)
    (top_next c.instructions_mean.ensures.holds c.args.stack.now (shown_frame c.in-Some-frame.frame) c.in-Some-frame.ensures c.in-Some.instruction c.meant_by.result c.meant_by.ensures)

pub returns-in-None : goal.returns-in-None
returns-in-None c = no_top_next c.args.stack.now c.in-None.ensures c.args.instruction None
