use Rattle.std.proofs.Common.{◌≡◌, ◌+◌, ◌<◌, ◌≤◌, ◌^◌, length, rules, sym, ap, subst, ◌∙◌}
use Rattle.heap.specs.Heap.{with_object, IsRefused}
use Rattle.string_methods.specs.Answers.{shown, IsAnswer}
use Rattle.machine_state.specs.allocations.Allocated.{string_of}
use Rattle.machine_instructions.specs.thread_methods.Texts.{answer_by}
use Rattle.machine_instructions.proofs.thread_methods.StringCalls.{wanted_is, raises_null, raises_outside, leaves_int, leaves_same, makes, unmade, lacks_units}
use Rattle.machine_instructions.proofs.thread_methods.strings.answer_call.Goals as goal

pub returns-in_default : goal.returns-in_default
returns-in_default c = λ t p trees bounds inflated state frame rest offset is frames.
    raises_null trees p bounds inflated t c.args.shared.now c.args.stack.now state frame rest c.args.asked c.args.operands c.args.next offset is frames
    (sym (wanted_is trees p bounds inflated t c.args.shared.now c.args.stack.now state frame rest c.args.asked c.args.operands c.args.next offset is frames) ∙ c.in_default.ensures)

pub returns-in_err-answered : goal.returns-in_err-answered
returns-in_err-answered c = λ t p trees bounds inflated state frame rest offset is frames.
    lacks_units trees p bounds inflated t c.args.shared.now c.args.stack.now state frame rest c.args.asked c.args.operands c.args.next offset is frames
    c.in_err-answered.field-0.0 (answer_by c.args.asked c.args.shared.now.heap.objects c.args.stack.now)
    (subst (λ r. IsAnswer r (answer_by c.args.asked c.args.shared.now.heap.objects c.args.stack.now)) c.in_err-answered.was c.in-Some.ensures)
    (wanted_is trees p bounds inflated t c.args.shared.now c.args.stack.now state frame rest c.args.asked c.args.operands c.args.next offset is frames)
    c.from_residual.result c.from_residual.ensures.1

pub returns-in-Outside : goal.returns-in-Outside
returns-in-Outside c = λ t p trees bounds inflated state frame rest offset is frames.
    raises_outside trees p bounds inflated t c.args.shared.now c.args.stack.now state frame rest c.args.asked c.args.operands c.args.next offset is frames
    (subst (λ a. shown a ≡ (answer_by c.args.asked c.args.shared.now.heap.objects c.args.stack.now)) c.in-Outside.is (subst (λ r. IsAnswer r (answer_by c.args.asked c.args.shared.now.heap.objects c.args.stack.now)) c.in_ok-answered.was c.in-Some.ensures)
    ∙ wanted_is trees p bounds inflated t c.args.shared.now c.args.stack.now state frame rest c.args.asked c.args.operands c.args.next offset is frames)

pub returns-in-Int : goal.returns-in-Int
returns-in-Int c = λ t p trees bounds inflated state frame rest offset is frames.
    leaves_int trees p bounds inflated t c.args.shared.now c.args.stack.now state frame rest c.args.asked c.args.operands c.args.next offset is frames c.in-Int.bits
    (subst (λ a. shown a ≡ (answer_by c.args.asked c.args.shared.now.heap.objects c.args.stack.now)) c.in-Int.is (subst (λ r. IsAnswer r (answer_by c.args.asked c.args.shared.now.heap.objects c.args.stack.now)) c.in_ok-answered.was c.in-Some.ensures)
    ∙ wanted_is trees p bounds inflated t c.args.shared.now c.args.stack.now state frame rest c.args.asked c.args.operands c.args.next offset is frames)
    c.answer.result c.answer.new.stack c.answer.ensures

pub returns-in-Same : goal.returns-in-Same
returns-in-Same c = λ t p trees bounds inflated state frame rest offset is frames.
    leaves_same trees p bounds inflated t c.args.shared.now c.args.stack.now state frame rest c.args.asked c.args.operands c.args.next offset is frames c.in-Same.place
    (subst (λ a. shown a ≡ (answer_by c.args.asked c.args.shared.now.heap.objects c.args.stack.now)) c.in-Same.is (subst (λ r. IsAnswer r (answer_by c.args.asked c.args.shared.now.heap.objects c.args.stack.now)) c.in_ok-answered.was c.in-Some.ensures)
    ∙ wanted_is trees p bounds inflated t c.args.shared.now c.args.stack.now state frame rest c.args.asked c.args.operands c.args.next offset is frames)
    c.operand-word.result c.operand-word.ensures c.answer-in-Same.result c.answer-in-Same.new.stack c.answer-in-Same.ensures

pub returns-in_err-add_string-in-Composed : goal.returns-in_err-add_string-in-Composed
returns-in_err-add_string-in-Composed c = λ t p trees bounds inflated state frame rest offset is frames.
    let why = c.in_err-add_string-in-Composed.field-0.0 in
    unmade trees p bounds inflated t c.args.shared.now c.args.stack.now state frame rest c.args.asked c.args.operands c.args.next offset is frames c.in-Composed.units.items
    (subst (λ a. shown a ≡ (answer_by c.args.asked c.args.shared.now.heap.objects c.args.stack.now)) c.in-Composed.is (subst (λ r. IsAnswer r (answer_by c.args.asked c.args.shared.now.heap.objects c.args.stack.now)) c.in_ok-answered.was c.in-Some.ensures)
    ∙ wanted_is trees p bounds inflated t c.args.shared.now c.args.stack.now state frame rest c.args.asked c.args.operands c.args.next offset is frames)
    c.add_string.new.heap why
    (subst (λ units. IsRefused why (length units) c.args.shared.now.heap c.add_string.new.heap) c.as_slice.ensures.value c.in_err-add_string-in-Composed.ensures.err)
    c.from_residual-in_err-add_string-in-Composed.result c.from_residual-in_err-add_string-in-Composed.ensures.1

pub returns-in_ok-add_string-in-Composed : goal.returns-in_ok-add_string-in-Composed
returns-in_ok-add_string-in-Composed c = λ t p trees bounds inflated state frame rest offset is frames.
    let old = c.args.shared.now.heap in
    let added = c.in_ok-add_string-in-Composed.ensures in
    let fits : c.len-word.result < 2 ^ 32 = search (rules, c.len-word.type_inv) in
    makes trees p bounds inflated t c.args.shared.now c.args.stack.now state frame rest c.args.asked c.args.operands c.args.next offset is frames c.in-Composed.units.items
    (subst (λ a. shown a ≡ (answer_by c.args.asked c.args.shared.now.heap.objects c.args.stack.now)) c.in-Composed.is (subst (λ r. IsAnswer r (answer_by c.args.asked c.args.shared.now.heap.objects c.args.stack.now)) c.in_ok-answered.was c.in-Some.ensures)
    ∙ wanted_is trees p bounds inflated t c.args.shared.now c.args.stack.now state frame rest c.args.asked c.args.operands c.args.next offset is frames)
    c.add_string.new.heap
    (added.ok ∙ ap (λ units. with_object old (string_of units) (length units)) c.as_slice.ensures.value) added.opened added.objects
    (subst (λ units. old.counted + length units ≤ old.cell_limit) c.as_slice.ensures.value added.cells)
    c.len-word.result c.len-word.ensures.objects fits
    c.answer-in-Composed.result c.answer-in-Composed.new.stack c.answer-in-Composed.ensures
