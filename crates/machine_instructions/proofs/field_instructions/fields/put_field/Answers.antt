use Rattle.std.proofs.Common.{refl, sym, ◌∙◌, Ok}
use Rattle.thread_stacks.specs.Stacks.{shown_frame}
use Rattle.machine_instructions.proofs.leaving.Left.{placed}
use Rattle.machine_instructions.proofs.field_instructions.Referred.{refers, null_is}
use Rattle.machine_instructions.proofs.field_instructions.Instances.{put_field_of_null, put_field_done}
use Rattle.machine_instructions.proofs.field_instructions.fields.put_field.Goals as goal

pub returns-in-None : goal.returns-in-None
returns-in-None c = λ p t frames trees bounds inflated state frame rest code site meaning is. (
  put_field_of_null trees p bounds inflated t c.args.shared.now c.args.stack.now state frame rest code site meaning c.args.of c.args.slot is (shown_frame c.in-Some.frame) c.in-Some.ensures frames
      (sym c.operand.ensures ∙ null_is c.operand.result c.in-None.ensures),
  record { shared = refl; stack = refl },
)

pub returns-in-Some-checked_sub : goal.returns-in-Some-checked_sub
returns-in-Some-checked_sub c = λ p t frames trees bounds inflated state frame rest code site meaning is.
    let r = c.in-Some-checked_sub.object in
    let out = c.leave_nothing.ensures (shown_frame c.in-Some.frame) c.in-Some.ensures in
    placed is frames (Ok c.leave_nothing.result) _ c.leave_nothing.new.stack _ out.is
    (put_field_done trees p bounds inflated t c.args.shared.now c.args.stack.now state frame rest code site meaning c.args.of c.args.slot is (shown_frame c.in-Some.frame) c.in-Some.ensures frames
    r c.operand-in-Some-checked_sub.result c.kept-word.result
    (sym c.operand.ensures ∙ refers c.operand.result r c.in-Some-checked_sub.ensures)
    (sym c.operand-in-Some-checked_sub.ensures)
    c.kept-word.ensures
    c.put_field.new.self
    c.put_field.ensures
    out.frame c.leave_nothing.result out.leaves)
