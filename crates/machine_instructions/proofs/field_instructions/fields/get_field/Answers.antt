use Rattle.std.proofs.Common.{refl, sym, ◌∙◌}
use Rattle.thread_stacks.specs.Stacks.{shown_frame}
use Rattle.machine_instructions.proofs.leaving.Left.{placed}
use Rattle.machine_instructions.proofs.field_instructions.Referred.{refers, null_is}
use Rattle.machine_instructions.proofs.field_instructions.Instances.{get_field_of_null, get_field_done}
use Rattle.machine_instructions.proofs.field_instructions.fields.get_field.Goals as goal

pub returns-in-None : goal.returns-in-None
returns-in-None c = λ p t frames trees bounds inflated state frame rest code site meaning is. (
  get_field_of_null trees p bounds inflated t c.args.shared.now c.args.stack.now state frame rest code site meaning c.args.slot is (shown_frame c.in-Some.frame) c.in-Some.ensures frames
      (sym c.operand.ensures ∙ null_is c.operand.result c.in-None.ensures),
  record { shared = refl; stack = refl },
)

pub returns-in-Some-checked_sub : goal.returns-in-Some-checked_sub
returns-in-Some-checked_sub c = λ p t frames trees bounds inflated state frame rest code site meaning is.
    let out = c.leave.ensures (shown_frame c.in-Some.frame) c.in-Some.ensures in
    placed is frames c.leave.result _ c.leave.new.stack _ out.is
    (get_field_done trees p bounds inflated t c.args.shared.now c.args.stack.now state frame rest code site meaning c.args.slot is (shown_frame c.in-Some.frame) c.in-Some.ensures frames
    c.in-Some-checked_sub.object c.get_field.result
    (sym c.operand.ensures ∙ refers c.operand.result c.in-Some-checked_sub.object c.in-Some-checked_sub.ensures)
    c.get_field.ensures
    out.frame c.leave.result out.leaves)
