use Rattle.std.proofs.Common.{◌≡◌, ◌+◌, ◌-◌, ◌≤◌, ℕ, List, true, false, length, map, take, drop, Some, None, arith, refl, rules, sym, ap, subst, ◌∙◌}
use Rattle.model.specs.declared.text_method.TextMethod.TheVariants as asks
use Rattle.model.specs.ReferenceTypes.{Char}
use Rattle.model.specs.TextMethods.{Becomes}
use Rattle.model.specs.Worlds.{kept}
use Rattle.machine_state.specs.shown_objects.Shown.{AreUnits}
use Rattle.linked_code.specs.declared.method.BuiltInMethod.TheVariants as method
use Rattle.machine_instructions.proofs.thread_methods.TextWriteCalls.{becomes, chars_units, enough, lacks_units, of_none, of_part, of_too_many, raises_null, raises_outside}
use Rattle.machine_instructions.proofs.thread_methods.text_writes.construct_of_chars.Goals as goal

pub returns-in_default : goal.returns-in_default
returns-in_default c = λ t p trees bounds inflated state frame rest offset is frames.
    raises_null trees p bounds inflated t c.args.shared.now c.args.stack.now state frame rest asks.ConstructOfChars c.args.operands c.args.next offset is frames
    (of_none trees p bounds inflated t c.args.shared.now c.args.stack.now state frame rest c.args.operands c.args.next offset is frames
    c.operand-word.result c.operand-word.ensures c.operand-offset.result c.operand-offset.ensures c.operand-count.result c.operand-count.ensures c.in_default.ensures)

pub returns-then-not-has_part : goal.returns-then-not-has_part
returns-then-not-has_part c = λ t p trees bounds inflated state frame rest offset is frames.
    raises_outside trees p bounds inflated t c.args.shared.now c.args.stack.now state frame rest asks.ConstructOfChars c.args.operands c.args.next offset is frames
    (of_too_many trees p bounds inflated t c.args.shared.now c.args.stack.now state frame rest c.args.operands c.args.next offset is frames
    c.operand-word.result c.operand-word.ensures c.operand-offset.result c.operand-offset.ensures c.operand-count.result c.operand-count.ensures
    c.in-Some.array.now c.in-Some.ensures c.has_part.result c.has_part.ensures c.if-not-has_part.true)

pub returns : goal.returns
returns c = λ t p trees bounds inflated state frame rest offset is frames.
    let old = c.args.shared.now in
    let from = c.args.stack.now in
    let m = asks.ConstructOfChars in
    let count = c.args.operands in
    let part = take c.operand-count.result (drop c.operand-offset.result c.in-Some.array.now) in
    let many : c.operand-offset.result + c.operand-count.result - c.operand-offset.result ≡ c.operand-count.result = omega arith in
    let units_are : c.deref.result.now ≡ map (kept Char) part =
    c.deref.ensures.value ∙ (c.in_ok-units.ensures ∙ ap (λ n. map (kept Char) (take n (drop c.operand-offset.result c.in-Some.array.now))) many) in
    becomes trees p bounds inflated t old from state frame rest m count c.args.next offset is frames 3 c.deref.result.now
    (of_part trees p bounds inflated t old from state frame rest count c.args.next offset is frames
    c.operand-word.result c.operand-word.ensures c.operand-offset.result c.operand-offset.ensures c.operand-count.result c.operand-count.ensures
    c.in-Some.array.now c.in-Some.ensures c.has_part.result c.has_part.ensures c.if-not-has_part.false ∙ ap (Becomes 3) (sym units_are))
    c.become_text.result c.become_text.new.shared c.become_text.new.stack
    (c.become_text.ensures trees p bounds inflated t state frame rest (method.StringWrites m) offset is (subst AreUnits (sym units_are) (chars_units part))
    (omega (arith, enough trees p bounds inflated t old from state frame rest m count c.args.next offset is frames)) frames)

pub returns-in_err-units : goal.returns-in_err-units
returns-in_err-units c = λ t p trees bounds inflated state frame rest offset is frames.
    let old = c.args.shared.now in
    let from = c.args.stack.now in
    let m = asks.ConstructOfChars in
    let count = c.args.operands in
    let text = take c.operand-count.result (drop c.operand-offset.result c.in-Some.array.now) in
    lacks_units trees p bounds inflated t old from state frame rest m count c.args.next offset is frames 3 (map (kept Char) text)
    (of_part trees p bounds inflated t old from state frame rest count c.args.next offset is frames
    c.operand-word.result c.operand-word.ensures c.operand-offset.result c.operand-offset.ensures c.operand-count.result c.operand-count.ensures
    c.in-Some.array.now c.in-Some.ensures c.has_part.result c.has_part.ensures c.if-not-has_part.false)
    (chars_units text)
    (omega (arith, enough trees p bounds inflated t old from state frame rest m count c.args.next offset is frames)) c.from_residual.result c.from_residual.ensures.1
