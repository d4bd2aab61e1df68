use Rattle.std.proofs.Common.{refl, sym, ◌∙◌}
use Rattle.thread_stacks.specs.Stacks.{shown_frame}
use Rattle.linked_code.specs.declared.instruction.LinkedInstruction.TheVariants as linked
use Rattle.machine_instructions.proofs.leaving.Left.{placed}
use Rattle.machine_instructions.proofs.field_instructions.Referred.{refers, null_is}
use Rattle.machine_instructions.proofs.field_instructions.Elements.{length_of_null, length_done}
use Rattle.machine_instructions.proofs.field_instructions.arrays.array_length.Goals as goal

pub returns-in-None : goal.returns-in-None
returns-in-None c = λ p t frames trees bounds inflated state frame rest code site meaning is. (
  length_of_null trees p bounds inflated t c.args.shared.now c.args.stack.now state frame rest code site meaning linked.ArrayLength is (shown_frame c.in-Some.frame) c.in-Some.ensures frames is.stands.linked.to is.stands.linked.is
      (sym c.operand.ensures ∙ null_is c.operand.result c.in-None.ensures),
  record { shared = refl; stack = refl },
)

pub returns-in-Some-checked_sub : goal.returns-in-Some-checked_sub
returns-in-Some-checked_sub c = λ p t frames trees bounds inflated state frame rest code site meaning is.
    let out = c.leave.ensures (shown_frame c.in-Some.frame) c.in-Some.ensures in
    placed is frames c.leave.result _ c.leave.new.stack _ out.is
    (length_done trees p bounds inflated t c.args.shared.now c.args.stack.now state frame rest code site meaning linked.ArrayLength is (shown_frame c.in-Some.frame) c.in-Some.ensures frames is.stands.linked.to is.stands.linked.is
    c.in-Some-checked_sub.array c.length.result
    (sym c.operand.ensures ∙ refers c.operand.result c.in-Some-checked_sub.array c.in-Some-checked_sub.ensures)
    c.length.ensures
    out.frame c.leave.result out.leaves)
