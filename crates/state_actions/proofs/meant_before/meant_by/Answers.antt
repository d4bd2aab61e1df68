use Rattle.std.proofs.Common.{◌-◌, Some, ap, ◌∙◌}
use Rattle.thread_stacks.specs.Stacks.{shown_frame}
use Rattle.state_actions.proofs.meant_before.Ruling.{return_said, other_said}
use Rattle.state_actions.proofs.meant_before.meant_by.Goals as goal

pub returns-in-Return : goal.returns-in-Return
returns-in-Return c = return_said c.args.instruction _ c.in-Return.is (shown_frame c.args.frame.now)

pub returns-in_default : goal.returns-in_default
returns-in_default c =
    ap (λ n. Some n) (c.saturating_sub.ensures ∙ ap (λ n. n - 1) c.operand.ensures)
    ∙ other_said c.args.instruction (λ kind e. c.in_default.not-Return kind e) (shown_frame c.args.frame.now)
