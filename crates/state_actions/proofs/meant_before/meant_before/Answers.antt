use Rattle.std.proofs.Common.{Some, None, refl, sym, subst}
use Rattle.thread_rules.specs.declared.next_rules.NextRule.{NextRule}
use Rattle.state_actions.proofs.meant_before.Ruling.{IsToldBy, before_told}
use Rattle.state_actions.proofs.meant_before.meant_before.Goals as goal

pub returns-in-NoEvent : goal.returns-in-NoEvent
returns-in-NoEvent c =
    before_told c.args.stack.now c.args.instruction None c.args.rule (subst (λ (r : NextRule). IsToldBy c.args.stack.now c.args.instruction None r) (sym c.in-NoEvent.is) refl)

pub returns-in-Relock : goal.returns-in-Relock
returns-in-Relock c =
    before_told c.args.stack.now c.args.instruction (Some c.in-Relock.object) c.args.rule (subst (λ (r : NextRule). IsToldBy c.args.stack.now c.args.instruction (Some c.in-Relock.object) r) (sym c.in-Relock.is) refl)

pub returns-in-Pending : goal.returns-in-Pending
returns-in-Pending c =
    before_told c.args.stack.now c.args.instruction c.entered_on_top.result c.args.rule (subst (λ (r : NextRule). IsToldBy c.args.stack.now c.args.instruction c.entered_on_top.result r) (sym c.in-Pending.is) c.entered_on_top.ensures)

pub returns-in-Begin : goal.returns-in-Begin
returns-in-Begin c =
    before_told c.args.stack.now c.args.instruction None c.args.rule (subst (λ (r : NextRule). IsToldBy c.args.stack.now c.args.instruction None r) (sym c.in-Begin.is) refl)

pub returns-in-Initialisation : goal.returns-in-Initialisation
returns-in-Initialisation c =
    before_told c.args.stack.now c.args.instruction None c.args.rule (subst (λ (r : NextRule). IsToldBy c.args.stack.now c.args.instruction None r) (sym c.in-Initialisation.is) refl)

pub returns-in-Bytecode : goal.returns-in-Bytecode
returns-in-Bytecode c =
    before_told c.args.stack.now c.args.instruction c.meant_next.result c.args.rule (subst (λ (r : NextRule). IsToldBy c.args.stack.now c.args.instruction c.meant_next.result r) (sym c.in-Bytecode.is) c.meant_next.ensures)
