use Rattle.std.proofs.Common.{Ok, refl, ap, subst, ◌∙◌, arith}
use Rattle.machine.specs.Machines.{Steps}
use Rattle.machine.proofs.Repeating.{begins, goes_on_by, not_enabled, refused, all_done}
use Rattle.machine.proofs.Lent.{of_event}
use Rattle.machine.proofs.machine.Machine.repeat.Goals as goal

pub returns-then-event-eq0 : goal.returns-then-event-eq0
returns-then-event-eq0 c = of_event c.steps.result c.args.event c.args.most c.args.self.now c.steps.new.self c.if-event-eq0.true c.steps.ensures

pub loop-done-init : goal.loop-done-init
loop-done-init c = begins c.args.event c.args.self.now

pub returns-in-Ok-NotEnabled : goal.returns-in-Ok-NotEnabled
returns-in-Ok-NotEnabled c =
    not_enabled c.args.event c.loop-done.done c.args.self.now c.loop-done.self c.step.new.self c.loop-done.invariant c.args.most c.loop-done-test.true
    (subst (λ r. Steps r c.args.event c.loop-done.self c.step.new.self) (c.in-Ok-NotEnabled.is ∙ ap Ok c.in-Ok-NotEnabled.field-0-is) c.step.ensures)

pub returns-in-Err : goal.returns-in-Err
returns-in-Err c =
    refused c.args.event c.loop-done.done c.args.self.now c.loop-done.self c.step.new.self c.loop-done.invariant c.args.most c.loop-done-test.true c.in-Err.refusal
    (subst (λ r. Steps r c.args.event c.loop-done.self c.step.new.self) c.in-Err.is c.step.ensures)

pub loop-done-preserved : goal.loop-done-preserved
loop-done-preserved c =
    goes_on_by c.args.event c.loop-done.done c.args.self.now c.loop-done.self c.step.new.self c.loop-done.invariant _ refl
    (subst (λ r. Steps r c.args.event c.loop-done.self c.step.new.self) (c.in-Ok-Done.is ∙ ap Ok c.in-Ok-Done.field-0-is) c.step.ensures)

pub returns : goal.returns
returns c = all_done c.args.event c.args.most c.loop-done.done c.args.self.now c.loop-done.self (omega (arith, c.loop-done.auto.done-end, c.loop-done-test.false)) c.loop-done.invariant
