use Rattle.std.proofs.Common.{◌≡◌, ◌-◌, ◌∷◌, ◌++◌, suc, take, sym, ap, subst, ◌∙◌, arith}
use Rattle.std.specs.Prelude.{slice_index_or}
use Rattle.model.specs.declared.object_method.ObjectMethod.TheVariants as asked
use Rattle.model.specs.ObjectMethods.{description, dotted, hexadecimal, object_answer, type_at, type_name}
use Rattle.model.specs.Operands.{words, word_reference}
use Rattle.model.specs.Sites.{int_operand}
use Rattle.linked_code.specs.declared.method.BuiltInMethod.TheVariants as method
use Rattle.machine_state.specs.shown_objects.Shown.{AreUnits}
use Rattle.machine_instructions.proofs.thread_methods.Calls.{operand_is}
use Rattle.machine_instructions.proofs.thread_methods.StringCalls.{taken}
use Rattle.machine_instructions.proofs.thread_methods.ObjectCalls.{composed, is_null, lacks}
use Rattle.machine_instructions.proofs.thread_methods.ObjectTexts.{description_units}
use Rattle.machine_instructions.proofs.thread_methods.TypeTexts.{object_is}
use Rattle.machine_instructions.proofs.thread_methods.objects.give_description.Goals as goal

pub returns-then-word-eq0 : goal.returns-then-word-eq0
returns-then-word-eq0 c = λ t trees bounds inflated state frame rest offset is frames.
    let p = c.args.program.now in
    let old = c.args.shared.now in
    let from = c.args.stack.now in
    let called = method.ObjectAnswers asked.Described in
    let ops = take c.args.operands frame.place.slots.stack in
    let word_is : slice_index_or ops 1 0 ≡ 0 =
    taken c.args.operands frame.place.slots.stack 1 is.arguments
    ∙ sym (operand_is trees p bounds inflated t old from state frame rest called c.args.operands c.args.next offset is 1) ∙ sym c.operand-word.ensures ∙ c.if-word-eq0.true
    in
    is_null trees p bounds inflated t old from state frame rest asked.Described c.args.operands c.args.next offset is frames
    (sym (ap (λ w. object_answer trees asked.Described (word_reference w) (type_at state.world) (int_operand words ops 0)) word_is))

pub returns-in_err-name : goal.returns-in_err-name
returns-in_err-name c = λ t trees bounds inflated state frame rest offset is frames.
    let p = c.args.program.now in
    let old = c.args.shared.now in
    let from = c.args.stack.now in
    let called = method.ObjectAnswers asked.Described in
    let ops = take c.args.operands frame.place.slots.stack in
    let r = c.operand-word.result - 1 in
    let more : suc r ≡ c.operand-word.result = omega (arith, c.if-word-eq0.false) in
    let word_is : suc r ≡ slice_index_or ops 1 0 =
    more ∙ c.operand-word.ensures ∙ operand_is trees p bounds inflated t old from state frame rest called c.args.operands c.args.next offset is 1
    ∙ sym (taken c.args.operands frame.place.slots.stack 1 is.arguments)
    in
    lacks trees p bounds inflated t old from state frame rest asked.Described c.args.operands c.args.next offset is frames
    (description (type_at state.world r) (int_operand words ops 0))
    (ap (λ w. object_answer trees asked.Described (word_reference w) (type_at state.world) (int_operand words ops 0)) word_is)
    c.from_residual.result c.from_residual.ensures.1

pub returns-in_err-text : goal.returns-in_err-text
returns-in_err-text c = λ t trees bounds inflated state frame rest offset is frames.
    let p = c.args.program.now in
    let old = c.args.shared.now in
    let from = c.args.stack.now in
    let called = method.ObjectAnswers asked.Described in
    let ops = take c.args.operands frame.place.slots.stack in
    let r = c.operand-word.result - 1 in
    let more : suc r ≡ c.operand-word.result = omega (arith, c.if-word-eq0.false) in
    let word_is : suc r ≡ slice_index_or ops 1 0 =
    more ∙ c.operand-word.ensures ∙ operand_is trees p bounds inflated t old from state frame rest called c.args.operands c.args.next offset is 1
    ∙ sym (taken c.args.operands frame.place.slots.stack 1 is.arguments)
    in
    lacks trees p bounds inflated t old from state frame rest asked.Described c.args.operands c.args.next offset is frames
    (description (type_at state.world r) (int_operand words ops 0))
    (ap (λ w. object_answer trees asked.Described (word_reference w) (type_at state.world) (int_operand words ops 0)) word_is)
    c.from_residual-in_err-text.result c.from_residual-in_err-text.ensures.1

pub returns : goal.returns
returns c = λ t trees bounds inflated state frame rest offset is frames.
    let p = c.args.program.now in
    let old = c.args.shared.now in
    let from = c.args.stack.now in
    let called = method.ObjectAnswers asked.Described in
    let ops = take c.args.operands frame.place.slots.stack in
    let r = c.operand-word.result - 1 in
    let more : suc r ≡ c.operand-word.result = omega (arith, c.if-word-eq0.false) in
    let word_is : suc r ≡ slice_index_or ops 1 0 =
    more ∙ c.operand-word.ensures ∙ operand_is trees p bounds inflated t old from state frame rest called c.args.operands c.args.next offset is 1
    ∙ sym (taken c.args.operands frame.place.slots.stack 1 is.arguments)
    in
    let int_is : c.operand.result ≡ int_operand words ops 0 =
    c.operand.ensures ∙ operand_is trees p bounds inflated t old from state frame rest called c.args.operands c.args.next offset is 0
    ∙ sym (taken c.args.operands frame.place.slots.stack 0 (omega (arith, is.arguments)))
    in
    let type = type_at state.world r in
    let text = description type (int_operand words ops 0) in
    let name_is : c.deref.result.now ≡ dotted (type_name type) = c.deref.ensures.value ∙ c.in_ok-name.ensures ∙ object_is trees p is.program c.classes_are_read.ensures.holds old.heap.objects state.world.heap is.lent.represents.world_is.objects r in
    let text_is : c.deref-2.result.now ≡ text =
    c.deref-2.ensures.value ∙ c.in_ok-text.ensures ∙ (λ i. name_is i ++ 64 ∷ hexadecimal (int_is i))
    in
    composed trees p bounds inflated t old from state frame rest asked.Described c.args.operands c.args.next offset is frames text
    (ap (λ w. object_answer trees asked.Described (word_reference w) (type_at state.world) (int_operand words ops 0)) word_is)
    c.deref-2.result.now (sym text_is) c.give_text.result c.give_text.new.shared c.give_text.new.stack
    (c.give_text.ensures trees p bounds inflated t state frame rest called offset is (subst AreUnits (sym text_is) (description_units type (int_operand words ops 0)))
    (omega (arith, is.arguments)) frames)
