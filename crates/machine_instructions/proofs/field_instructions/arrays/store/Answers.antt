use Rattle.std.proofs.Common.{refl, sym, ◌∙◌, Ok}
use Rattle.thread_stacks.specs.Stacks.{shown_frame}
use Rattle.linked_code.specs.declared.instruction.LinkedInstruction.TheVariants as linked
use Rattle.machine_instructions.proofs.leaving.Left.{placed}
use Rattle.machine_instructions.proofs.field_instructions.Referred.{refers, null_is, within, past}
use Rattle.machine_instructions.proofs.field_instructions.Elements.{stores_int, stores_narrow, store_of_null, store_outside, store_done}
use Rattle.machine_instructions.proofs.field_instructions.arrays.store.Goals as goal

pub returns-in-None-clause-ints : goal.returns-in-None-clause-ints
returns-in-None-clause-ints c = λ p t frames trees bounds inflated state frame rest code site meaning is.
    let l = is.stands.linked in (
      store_of_null trees p bounds inflated t c.args.shared.now c.args.stack.now state frame rest code site meaning linked.StoreInt is (shown_frame c.in-Some.frame) c.in-Some.ensures frames l.to
          (stores_int trees p bounds inflated t c.args.shared.now c.args.stack.now state frame rest code site meaning linked.StoreInt is l.is)
          (sym c.operand.ensures ∙ null_is c.operand.result c.in-None.ensures),
      record { shared = refl; stack = refl },
    )

pub returns-in-None-clause-narrow : goal.returns-in-None-clause-narrow
returns-in-None-clause-narrow c = λ p t frames trees bounds inflated state frame rest code site meaning is.
    let l = is.stands.linked.stores in (
      store_of_null trees p bounds inflated t c.args.shared.now c.args.stack.now state frame rest code site meaning linked.StoreNarrow is (shown_frame c.in-Some.frame) c.in-Some.ensures frames l.to
          (stores_narrow trees p bounds inflated t c.args.shared.now c.args.stack.now state frame rest code site meaning linked.StoreNarrow is is.stands.linked.kind is.stands.linked.narrow l.is)
          (sym c.operand.ensures ∙ null_is c.operand.result c.in-None.ensures),
      record { shared = refl; stack = refl },
    )

pub returns-then-index-length-clause-ints : goal.returns-then-index-length-clause-ints
returns-then-index-length-clause-ints c = λ p t frames trees bounds inflated state frame rest code site meaning is.
    let l = is.stands.linked in
    let out = c.leave_nothing.ensures (shown_frame c.in-Some.frame) c.in-Some.ensures in
    placed is frames (Ok c.leave_nothing.result) _ c.leave_nothing.new.stack _ out.is
    (store_done trees p bounds inflated t c.args.shared.now c.args.stack.now state frame rest code site meaning linked.StoreInt is (shown_frame c.in-Some.frame) c.in-Some.ensures frames l.to
    (stores_int trees p bounds inflated t c.args.shared.now c.args.stack.now state frame rest code site meaning linked.StoreInt is l.is)
    c.in-Some-checked_sub.array c.operand-index.result c.operand-word.result
    (sym c.operand.ensures ∙ refers c.operand.result c.in-Some-checked_sub.array c.in-Some-checked_sub.ensures)
    (sym c.operand-index.ensures)
    (sym c.operand-word.ensures)
    (within c.operand-index.result c.length.result _ c.length.ensures c.if-index-length.true)
    c.put_element.new.self c.put_element.ensures
    out.frame c.leave_nothing.result out.leaves)

pub returns-then-index-length-clause-narrow : goal.returns-then-index-length-clause-narrow
returns-then-index-length-clause-narrow c = λ p t frames trees bounds inflated state frame rest code site meaning is.
    let l = is.stands.linked.stores in
    let out = c.leave_nothing.ensures (shown_frame c.in-Some.frame) c.in-Some.ensures in
    placed is frames (Ok c.leave_nothing.result) _ c.leave_nothing.new.stack _ out.is
    (store_done trees p bounds inflated t c.args.shared.now c.args.stack.now state frame rest code site meaning linked.StoreNarrow is (shown_frame c.in-Some.frame) c.in-Some.ensures frames l.to
    (stores_narrow trees p bounds inflated t c.args.shared.now c.args.stack.now state frame rest code site meaning linked.StoreNarrow is is.stands.linked.kind is.stands.linked.narrow l.is)
    c.in-Some-checked_sub.array c.operand-index.result c.operand-word.result
    (sym c.operand.ensures ∙ refers c.operand.result c.in-Some-checked_sub.array c.in-Some-checked_sub.ensures)
    (sym c.operand-index.ensures)
    (sym c.operand-word.ensures)
    (within c.operand-index.result c.length.result _ c.length.ensures c.if-index-length.true)
    c.put_element.new.self c.put_element.ensures
    out.frame c.leave_nothing.result out.leaves)

pub returns-else-index-length-clause-ints : goal.returns-else-index-length-clause-ints
returns-else-index-length-clause-ints c = λ p t frames trees bounds inflated state frame rest code site meaning is.
    let l = is.stands.linked in (
      store_outside trees p bounds inflated t c.args.shared.now c.args.stack.now state frame rest code site meaning linked.StoreInt is (shown_frame c.in-Some.frame) c.in-Some.ensures frames l.to
          (stores_int trees p bounds inflated t c.args.shared.now c.args.stack.now state frame rest code site meaning linked.StoreInt is l.is)
          c.in-Some-checked_sub.array c.operand-index.result
          (sym c.operand.ensures ∙ refers c.operand.result c.in-Some-checked_sub.array c.in-Some-checked_sub.ensures)
          (sym c.operand-index.ensures)
          (past c.operand-index.result c.length.result _ c.length.ensures c.if-index-length.false),
      record { shared = refl; stack = refl },
    )

pub returns-else-index-length-clause-narrow : goal.returns-else-index-length-clause-narrow
returns-else-index-length-clause-narrow c = λ p t frames trees bounds inflated state frame rest code site meaning is.
    let l = is.stands.linked.stores in (
      store_outside trees p bounds inflated t c.args.shared.now c.args.stack.now state frame rest code site meaning linked.StoreNarrow is (shown_frame c.in-Some.frame) c.in-Some.ensures frames l.to
          (stores_narrow trees p bounds inflated t c.args.shared.now c.args.stack.now state frame rest code site meaning linked.StoreNarrow is is.stands.linked.kind is.stands.linked.narrow l.is)
          c.in-Some-checked_sub.array c.operand-index.result
          (sym c.operand.ensures ∙ refers c.operand.result c.in-Some-checked_sub.array c.in-Some-checked_sub.ensures)
          (sym c.operand-index.ensures)
          (past c.operand-index.result c.length.result _ c.length.ensures c.if-index-length.false),
      record { shared = refl; stack = refl },
    )
