use Rattle.std.proofs.Common.{◌+◌, ◌<◌, ◌≤◌, ◌^◌, length, rules, ap, subst, ◌∙◌}
use Rattle.heap.specs.Heap.{with_object, IsRefused}
use Rattle.machine_state.specs.allocations.Allocated.{string_of}
use Rattle.machine_instructions.specs.thread_methods.Builders.{with_kept}
use Rattle.machine_instructions.proofs.thread_methods.BuilderCalls.{text_is, makes, unmade, lacks_units}
use Rattle.machine_instructions.proofs.thread_methods.builders.append.Goals as goal

pub returns-in_err-units : goal.returns-in_err-units
returns-in_err-units c = λ t some p trees bounds inflated state frame rest offset is frames.
    lacks_units trees p bounds inflated t c.args.shared.now c.args.stack.now state frame rest c.args.asked c.args.operands c.args.next offset is frames some
    c.from_residual.result c.from_residual.ensures.1

pub returns-in_err-add_string : goal.returns-in_err-add_string
returns-in_err-add_string c = λ t some p trees bounds inflated state frame rest offset is frames.
    let why = c.in_err-add_string.field-0.0 in
    let text = text_is trees p bounds inflated t c.args.shared.now c.args.stack.now state frame rest c.args.asked c.args.operands c.args.next offset is frames some in
    unmade trees p bounds inflated t c.args.shared.now c.args.stack.now state frame rest c.args.asked c.args.operands c.args.next offset is frames some
    why c.add_string.new.heap
    (subst (λ units. IsRefused why (length units) c.args.shared.now.heap c.add_string.new.heap) (c.as_slice.ensures.value ∙ (c.in_ok-units.ensures ∙ text)) c.in_err-add_string.ensures.err)
    c.from_residual-in_err-add_string.result c.from_residual-in_err-add_string.ensures.1

pub returns : goal.returns
returns c = λ t some p trees bounds inflated state frame rest offset is frames.
    let old = c.args.shared.now.heap in
    let text = text_is trees p bounds inflated t c.args.shared.now c.args.stack.now state frame rest c.args.asked c.args.operands c.args.next offset is frames some in
    let units_are = c.as_slice.ensures.value ∙ (c.in_ok-units.ensures ∙ text) in
    let added = c.in_ok-add_string.ensures in
    let fits : c.len-made.result < 2 ^ 32 = search (rules, c.len-made.type_inv) in
    makes trees p bounds inflated t c.args.shared.now c.args.stack.now state frame rest c.args.asked c.args.operands c.args.next offset is frames some
    c.add_string.new.heap
    (added.ok ∙ ap (λ units. with_object old (string_of units) (length units)) units_are) added.opened added.objects
    (subst (λ units. old.counted + length units ≤ old.cell_limit) units_are added.cells)
    c.len-made.result c.len-made.ensures.objects fits
    c.keep.new.heap
    (c.keep.ensures ∙ ap (λ r. record c.add_string.new.heap { objects = with_kept c.add_string.new.heap.objects r c.len-made.result }) c.object.ensures)
    c.operand-receiver.result c.operand-receiver.ensures c.answer.result c.answer.new.stack c.answer.ensures
