use Rattle.std.proofs.Common.{◌≡◌, ◌<◌, ◌≤◌, suc, length, subst, sym, arith, ◌∙◌, Ok}
use Rattle.heap.specs.Heap.{words_at}
use Rattle.machine_instructions.specs.type_instructions.Words.{TestsStore}
use Rattle.machine_state.specs.declared.answers.Effect.TheVariants as effect
use Rattle.machine_state.specs.declared.answers.MachineException.TheVariants as exception
use Rattle.thread_stacks.specs.Stacks.{shown_frame}
use Rattle.machine_instructions.proofs.leaving.Left.{placed}
use Rattle.machine_instructions.proofs.type_instructions.Events.{is_top, unchanged}
use Rattle.machine_instructions.proofs.type_instructions.Storing.{outside, not_storable, stores}
use Rattle.machine_instructions.proofs.type_instructions.stores.store_reference.Goals as goal

pub returns-then-index-length : goal.returns-then-index-length
returns-then-index-length c = λ t frames trees bounds inflated state frame rest code site meaning is.
    let array : suc c.in-Some-checked_sub.array ≡ c.operand.result = grind (arith, c.in-Some-checked_sub.ensures) in
    let past : length (words_at c.args.shared.now.heap.objects c.in-Some-checked_sub.array) ≤ c.operand-index.result = subst (λ n. n ≤ c.operand-index.result) c.length.ensures c.if-index-length.true in
    placed is frames (Ok (effect.Raises exception.ArrayIndexOutOfBounds)) c.args.shared.now c.args.stack.now _ (sym (unchanged is (shown_frame c.in-Some.frame) (is_top is _ c.in-Some.ensures)))
    (outside is frames c.operand-word.result c.operand-index.result c.in-Some-checked_sub.array _ (is_top is _ c.in-Some.ensures)
    c.operand-word.ensures c.operand-index.ensures (array ∙ c.operand.ensures) is.stands.linked.is past)

pub returns-then-not-may_stand_in : goal.returns-then-not-may_stand_in
returns-then-not-may_stand_in c = λ t frames trees bounds inflated state frame rest code site meaning is.
    let array : suc c.in-Some-checked_sub.array ≡ c.operand.result = grind (arith, c.in-Some-checked_sub.ensures) in
    let within : c.operand-index.result < length (words_at c.args.shared.now.heap.objects c.in-Some-checked_sub.array) = subst (λ n. c.operand-index.result < n) c.length.ensures c.if-index-length.false in
    placed is frames (Ok (effect.Raises exception.ArrayStore)) c.args.shared.now c.args.stack.now _ (sym (unchanged is (shown_frame c.in-Some.frame) (is_top is _ c.in-Some.ensures)))
    (not_storable is frames c.operand-word.result c.operand-index.result c.in-Some-checked_sub.array _ (is_top is _ c.in-Some.ensures)
    c.operand-word.ensures c.operand-index.ensures (array ∙ c.operand.ensures) is.stands.linked.is within
    (subst (TestsStore c.args.program.now c.args.shared.now.heap.objects c.in-Some-checked_sub.array c.operand-word.result) c.if-not-may_stand_in.true c.may_stand_in.ensures))

pub returns : goal.returns
returns c = λ t frames trees bounds inflated state frame rest code site meaning is.
    let array : suc c.in-Some-checked_sub.array ≡ c.operand.result = grind (arith, c.in-Some-checked_sub.ensures) in
    let within : c.operand-index.result < length (words_at c.args.shared.now.heap.objects c.in-Some-checked_sub.array) = subst (λ n. c.operand-index.result < n) c.length.ensures c.if-index-length.false in
    let out = c.leave_nothing.ensures (shown_frame c.in-Some.frame) c.in-Some.ensures in
    placed is frames (Ok c.leave_nothing.result) (record c.args.shared.now { heap = c.put_element.new.self }) c.leave_nothing.new.stack _ out.is
    (stores is frames c.operand-word.result c.operand-index.result c.in-Some-checked_sub.array _ (is_top is _ c.in-Some.ensures)
    c.operand-word.ensures c.operand-index.ensures (array ∙ c.operand.ensures) is.stands.linked.is within
    (subst (TestsStore c.args.program.now c.args.shared.now.heap.objects c.in-Some-checked_sub.array c.operand-word.result) c.if-not-may_stand_in.false c.may_stand_in.ensures)
    is.stands.linked.to c.put_element.new.self c.put_element.ensures _ c.leave_nothing.result out.leaves)
