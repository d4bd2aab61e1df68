use Rattle.std.proofs.Common.{arith, Some, None, refl, ◌∙◌}
use Rattle.state_actions.proofs.changed_monitors.Meant.{top_entered, no_top, none_above, top_above}
use Rattle.state_actions.proofs.changed_monitors.entered_since.Goals as goal

pub returns-then-len-depth : goal.returns-then-len-depth
returns-then-len-depth c = none_above c.args.depth c.args.stack.now (omega (arith, c.len.ensures, c.if-len-depth.true))

pub returns-in-Some : goal.returns-in-Some
returns-in-Some c =
    top_entered c.args.stack.now (Some c.in-Some.frame) c.in-Some.ensures c.in-Some.frame refl
    ∙ top_above c.args.depth c.args.stack.now (λ h. omega (arith, c.len.ensures, c.if-len-depth.false, h))

pub returns-in-None : goal.returns-in-None
returns-in-None c =
    no_top c.args.stack.now None c.in-None.ensures refl
    ∙ top_above c.args.depth c.args.stack.now (λ h. omega (arith, c.len.ensures, c.if-len-depth.false, h))
