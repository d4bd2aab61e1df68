use Rattle.std.proofs.Common.{refl, sym, ◌∙◌}
use Rattle.thread_stacks.specs.Stacks.{shown_frame}
use Rattle.linked_code.specs.declared.instruction.LinkedInstruction.TheVariants as linked
use Rattle.machine_instructions.proofs.leaving.Left.{placed}
use Rattle.machine_instructions.proofs.field_instructions.Referred.{refers, null_is, within, past}
use Rattle.machine_instructions.proofs.field_instructions.Elements.{loads, load_of_null, load_outside, load_done}
use Rattle.machine_instructions.proofs.field_instructions.arrays.load_element.Goals as goal

pub returns-in-None : goal.returns-in-None
returns-in-None c = λ p t frames trees bounds inflated state frame rest code site meaning is.
    let l = is.stands.linked in (
      load_of_null trees p bounds inflated t c.args.shared.now c.args.stack.now state frame rest code site meaning linked.LoadElement is (shown_frame c.in-Some.frame) c.in-Some.ensures frames l.to
          (loads trees p bounds inflated t c.args.shared.now c.args.stack.now state frame rest code site meaning linked.LoadElement is l.kind l.is)
          (sym c.operand.ensures ∙ null_is c.operand.result c.in-None.ensures),
      record { shared = refl; stack = refl },
    )

pub returns-then-index-length : goal.returns-then-index-length
returns-then-index-length c = λ p t frames trees bounds inflated state frame rest code site meaning is.
    let l = is.stands.linked in
    let out = c.leave.ensures (shown_frame c.in-Some.frame) c.in-Some.ensures in
    placed is frames c.leave.result _ c.leave.new.stack _ out.is
    (load_done trees p bounds inflated t c.args.shared.now c.args.stack.now state frame rest code site meaning linked.LoadElement is (shown_frame c.in-Some.frame) c.in-Some.ensures frames l.to
    (loads trees p bounds inflated t c.args.shared.now c.args.stack.now state frame rest code site meaning linked.LoadElement is l.kind l.is)
    c.in-Some-checked_sub.array c.operand-index.result c.get_element.result
    (sym c.operand.ensures ∙ refers c.operand.result c.in-Some-checked_sub.array c.in-Some-checked_sub.ensures)
    (sym c.operand-index.ensures)
    (within c.operand-index.result c.length.result _ c.length.ensures c.if-index-length.true)
    c.get_element.ensures
    out.frame c.leave.result out.leaves)

pub returns-else-index-length : goal.returns-else-index-length
returns-else-index-length c = λ p t frames trees bounds inflated state frame rest code site meaning is.
    let l = is.stands.linked in (
      load_outside trees p bounds inflated t c.args.shared.now c.args.stack.now state frame rest code site meaning linked.LoadElement is (shown_frame c.in-Some.frame) c.in-Some.ensures frames l.to
          (loads trees p bounds inflated t c.args.shared.now c.args.stack.now state frame rest code site meaning linked.LoadElement is l.kind l.is)
          c.in-Some-checked_sub.array c.operand-index.result
          (sym c.operand.ensures ∙ refers c.operand.result c.in-Some-checked_sub.array c.in-Some-checked_sub.ensures)
          (sym c.operand-index.ensures)
          (past c.operand-index.result c.length.result _ c.length.ensures c.if-index-length.false),
      record { shared = refl; stack = refl },
    )
