use Rattle.std.proofs.Common.{◌≡◌, Some, None, arith, refl, sym, ap, subst, ◌∙◌}
use Rattle.std.specs.Prelude.{option_map}
use Rattle.model.specs.declared.text_method.TextMethod.TheVariants as asks
use Rattle.model.specs.Operands.{words}
use Rattle.model.specs.TextMethods.{Becomes, if_there, string_operand}
use Rattle.machine_state.specs.shown_objects.Shown.{AreUnits}
use Rattle.linked_code.specs.declared.method.BuiltInMethod.TheVariants as method
use Rattle.machine_instructions.proofs.thread_methods.TextWriteCalls.{becomes, enough, lacks_units, ops, raises_null, text_read, text_units, units_of_some}
use Rattle.machine_instructions.proofs.thread_methods.text_writes.construct_of_string.Goals as goal

pub returns-in_default : goal.returns-in_default
returns-in_default c = λ t p trees bounds inflated state frame rest offset is frames.
    let none = c.in_default.ensures ∙ text_read trees p bounds inflated t c.args.shared.now c.args.stack.now state frame rest asks.ConstructOfString c.args.operands c.args.next offset is frames 0 (omega arith) in
    raises_null trees p bounds inflated t c.args.shared.now c.args.stack.now state frame rest asks.ConstructOfString c.args.operands c.args.next offset is frames
    (ap (λ o. if_there o (Becomes 1)) (sym none))

pub returns-in_err-units : goal.returns-in_err-units
returns-in_err-units c = λ t p trees bounds inflated state frame rest offset is frames.
    let old = c.args.shared.now in
    let from = c.args.stack.now in
    let m = asks.ConstructOfString in
    let count = c.args.operands in
    let some = c.in-Some.ensures ∙ text_read trees p bounds inflated t old from state frame rest m count c.args.next offset is frames 0 (omega arith) in
    lacks_units trees p bounds inflated t old from state frame rest m count c.args.next offset is frames 1 c.in-Some.text.now (ap (λ o. if_there o (Becomes 1)) (sym some))
    (units_of_some _ c.in-Some.text.now (sym some) (text_units trees p bounds inflated t old from state frame rest m count c.args.next offset is frames 0))
    (omega (arith, enough trees p bounds inflated t old from state frame rest m count c.args.next offset is frames)) c.from_residual.result c.from_residual.ensures.1

pub returns : goal.returns
returns c = λ t p trees bounds inflated state frame rest offset is frames.
    let old = c.args.shared.now in
    let from = c.args.stack.now in
    let m = asks.ConstructOfString in
    let count = c.args.operands in
    let some = c.in-Some.ensures ∙ text_read trees p bounds inflated t old from state frame rest m count c.args.next offset is frames 0 (omega arith) in
    let units_are : c.deref.result.now ≡ c.in-Some.text.now = c.deref.ensures.value ∙ c.in_ok-units.ensures.items in
    becomes trees p bounds inflated t old from state frame rest m count c.args.next offset is frames 1 c.deref.result.now
    (ap (λ o. if_there o (Becomes 1)) (sym some) ∙ ap (Becomes 1) (sym units_are)) c.become_text.result c.become_text.new.shared c.become_text.new.stack
    (c.become_text.ensures trees p bounds inflated t state frame rest (method.StringWrites m) offset is
    (subst AreUnits (sym units_are) (units_of_some _ c.in-Some.text.now (sym some) (text_units trees p bounds inflated t old from state frame rest m count c.args.next offset is frames 0)))
    (omega (arith, enough trees p bounds inflated t old from state frame rest m count c.args.next offset is frames)) frames)
