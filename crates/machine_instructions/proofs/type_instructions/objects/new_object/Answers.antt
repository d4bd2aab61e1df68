use Rattle.std.proofs.Common.{◌+◌, sym, ap, subst, ◌∙◌}
use Rattle.linked_code.specs.Numbers.{IsClassAt}
use Rattle.thread_stacks.specs.Stacks.{shown_frame}
use Rattle.machine_instructions.proofs.leaving.Left.{placed}
use Rattle.machine_instructions.proofs.type_instructions.Events.{is_top}
use Rattle.machine_instructions.proofs.type_instructions.Making.{makes_object}
use Rattle.machine_instructions.proofs.type_instructions.objects.new_object.Goals as goal

pub returns : goal.returns
returns c = λ p t frames trees bounds inflated state frame rest code site meaning is.
    let new = is.stands.linked in
    let out = c.leave_new.ensures (shown_frame c.in-Some._frame) c.in-Some.ensures in
    placed is frames c.leave_new.result _ c.leave_new.new.stack _ out.is
    (makes_object is c.from-2.result c.from-cells.result c.args.uncounted
    (record { named = new.named; is = new.is; numbered = subst (λ n. IsClassAt trees n new.named) (sym c.from-2.ensures) new.numbered; counted = ap (λ n. n + c.args.uncounted) c.from-cells.ensures ∙ new.counted; costs = c.from-cells.ensures ∙ new.costs; to = new.to })
    (c.from-cells.result + c.from.result) (ap (λ n. c.from-cells.result + n) c.from.ensures)
    frames c.leave_new.new.heap _ _ (is_top is _ c.in-Some.ensures) c.leave_new.result out.leaves)
