use Rattle.std.proofs.Common.{◌≡◌, ◌<◌, ◌≤◌, ◌+◌, ◌-◌, ◌^◌, ℕ, arith, length, refl, sym, ap, ◌∙◌}
use Rattle.model.specs.declared.text_method.TextMethod.TheVariants as asks
use Rattle.heap.specs.Heap.{words_at}
use Rattle.machine_instructions.proofs.thread_methods.CharCalls.{array_apart, no_array, no_room, no_string, outside, puts, string_words, within_bounds, within_room}
use Rattle.machine_instructions.proofs.thread_methods.TextWriteCalls.{raises_null, raises_outside, raises_outside_array}
use Rattle.machine_instructions.proofs.thread_methods.text_writes.get_chars.Goals as goal

pub returns-in_default : goal.returns-in_default
returns-in_default c = λ t p trees bounds inflated state frame rest offset is frames.
    raises_null trees p bounds inflated t c.args.shared.now c.args.stack.now state frame rest asks.GetChars c.args.operands c.args.next offset is frames
    (no_string trees p bounds inflated t c.args.shared.now c.args.stack.now state frame rest c.args.operands c.args.next offset is frames c.in_default.ensures)

pub returns-in_default-elements : goal.returns-in_default-elements
returns-in_default-elements c = λ t p trees bounds inflated state frame rest offset is frames.
    raises_null trees p bounds inflated t c.args.shared.now c.args.stack.now state frame rest asks.GetChars c.args.operands c.args.next offset is frames
    (no_array trees p bounds inflated t c.args.shared.now c.args.stack.now state frame rest c.args.operands c.args.next offset is frames
    c.in-Some.text.now c.in-Some.ensures c.operand-word.result c.operand-word.ensures c.in_default-elements.ensures)

pub returns-then-not-has_bounds : goal.returns-then-not-has_bounds
returns-then-not-has_bounds c = λ t p trees bounds inflated state frame rest offset is frames.
    raises_outside trees p bounds inflated t c.args.shared.now c.args.stack.now state frame rest asks.GetChars c.args.operands c.args.next offset is frames
    (outside trees p bounds inflated t c.args.shared.now c.args.stack.now state frame rest c.args.operands c.args.next offset is frames
    c.in-Some.text.now c.in-Some.ensures c.operand-word.result c.operand-word.ensures c.in-Some-elements.array.now c.in-Some-elements.ensures
    c.operand-begin.result c.operand-begin.ensures c.operand-end.result c.operand-end.ensures c.operand-index.result c.operand-index.ensures
    c.has_bounds.result c.has_bounds.ensures c.if-not-has_bounds.true)

pub overflow_sub-count : goal.overflow_sub-count
overflow_sub-count c =
    let h = within_bounds (length c.in-Some.text.now) c.operand-begin.result c.operand-end.result (sym c.has_bounds.ensures ∙ c.if-not-has_bounds.false) in h.0

pub returns-then-not-has_room : goal.returns-then-not-has_room
returns-then-not-has_room c = λ t p trees bounds inflated state frame rest offset is frames.
    raises_outside_array trees p bounds inflated t c.args.shared.now c.args.stack.now state frame rest asks.GetChars c.args.operands c.args.next offset is frames
    (no_room trees p bounds inflated t c.args.shared.now c.args.stack.now state frame rest c.args.operands c.args.next offset is frames
    c.in-Some.text.now c.in-Some.ensures c.operand-word.result c.operand-word.ensures c.in-Some-elements.array.now c.in-Some-elements.ensures
    c.operand-begin.result c.operand-begin.ensures c.operand-end.result c.operand-end.ensures c.operand-index.result c.operand-index.ensures
    c.has_bounds.result c.has_bounds.ensures c.if-not-has_bounds.false c.has_room.result c.has_room.ensures c.if-not-has_room.true)

pub put_units-requires-clause-apart : goal.put_units-requires-clause-apart
put_units-requires-clause-apart c = λ some same.
    let room = within_room (length c.in-Some-elements.array.now) c.operand-index.result (c.operand-end.result - c.operand-begin.result) (sym c.has_room.ensures ∙ c.if-not-has_room.false) in
    array_apart c.args.shared.now.heap.objects _ c.operand-word.result c.in-Some.text.now c.in-Some-elements.array.now c.in-Some.ensures c.in-Some-elements.ensures
    (omega (arith, some, room.0)) (sym c.object-string.ensures ∙ same ∙ c.object-to.ensures ∙ ap (λ w. w - 1) (sym c.operand-word.ensures))

pub put_units-requires-clause-text : goal.put_units-requires-clause-text
put_units-requires-clause-text c =
    let h = within_bounds (length c.in-Some.text.now) c.operand-begin.result c.operand-end.result (sym c.has_bounds.ensures ∙ c.if-not-has_bounds.false) in
    let same : length (words_at c.args.shared.now.heap.objects c.object-string.result) ≡ length c.in-Some.text.now =
    ap (λ r. length (words_at c.args.shared.now.heap.objects r)) c.object-string.ensures
    ∙ ap length (string_words c.args.shared.now.heap.objects _ c.in-Some.text.now c.in-Some.ensures) in
    omega (arith, h.0, h.1.0, same)

pub put_units-requires-clause-part : goal.put_units-requires-clause-part
put_units-requires-clause-part c =
    let h = within_bounds (length c.in-Some.text.now) c.operand-begin.result c.operand-end.result (sym c.has_bounds.ensures ∙ c.if-not-has_bounds.false) in
    omega (arith, h.0, h.1.1)

pub put_units-requires-clause-room : goal.put_units-requires-clause-room
put_units-requires-clause-room c =
    let h = within_bounds (length c.in-Some.text.now) c.operand-begin.result c.operand-end.result (sym c.has_bounds.ensures ∙ c.if-not-has_bounds.false) in
    let room = within_room (length c.in-Some-elements.array.now) c.operand-index.result (c.operand-end.result - c.operand-begin.result) (sym c.has_room.ensures ∙ c.if-not-has_room.false) in
    omega (arith, h.0, h.1.1, room.1)

pub returns : goal.returns
returns c = λ t p trees bounds inflated state frame rest offset is frames.
    let objects = c.args.shared.now.heap.objects in
    puts trees p bounds inflated t c.args.shared.now c.args.stack.now state frame rest c.args.operands c.args.next offset is frames
    c.in-Some.text.now c.in-Some.ensures c.operand-word.result c.operand-word.ensures c.in-Some-elements.array.now c.in-Some-elements.ensures
    c.operand-begin.result c.operand-begin.ensures c.operand-end.result c.operand-end.ensures c.operand-index.result c.operand-index.ensures
    c.has_bounds.result c.has_bounds.ensures c.if-not-has_bounds.false c.has_room.result c.has_room.ensures c.if-not-has_room.false
    c.object-to.result c.object-to.ensures (words_at objects c.object-string.result)
    (ap (words_at objects) c.object-string.ensures ∙ string_words objects _ c.in-Some.text.now c.in-Some.ensures)
    c.put_units.new.heap c.put_units.ensures c.go_on.new.stack c.go_on.ensures
