use Rattle.std.proofs.Common.{◌≡◌, ◌<◌, ◌-◌, suc, length, take, sym, ap, subst, ◌∙◌, arith}
use Rattle.std.proofs.lemmas.Option.{slice_get_within}
use Rattle.model.specs.declared.object_method.ObjectMethod.TheVariants as asked
use Rattle.model.specs.BuiltInNumbers.{first_class_reference}
use Rattle.model.specs.ObjectMethods.{class_described, dotted}
use Rattle.linked_code.specs.declared.method.BuiltInMethod.TheVariants as method
use Rattle.run_laws.specs.word_operands.Receivers.{is_any}
use Rattle.machine_state.specs.shown_objects.Shown.{AreUnits}
use Rattle.machine_instructions.specs.thread_methods.TypeNames.{name_in}
use Rattle.machine_instructions.proofs.thread_methods.Calls.{object_is}
use Rattle.machine_instructions.proofs.thread_methods.ObjectCalls.{composed, lacks, told}
use Rattle.machine_instructions.proofs.thread_methods.ObjectTexts.{dotted_units}
use Rattle.machine_instructions.proofs.thread_methods.TypeTexts.{described_is}
use Rattle.machine_instructions.proofs.thread_methods.objects.give_name.Goals as goal

pub returns-in_err-name : goal.returns-in_err-name
returns-in_err-name c = λ t trees bounds inflated state frame rest offset is frames.
    lacks trees c.args.program.now bounds inflated t c.args.shared.now c.args.stack.now state frame rest asked.ClassName c.args.operands c.args.next offset is frames
    (dotted (class_described trees is.arguments.reference))
    (told trees c.args.program.now bounds inflated t c.args.shared.now c.args.stack.now state frame rest asked.ClassName c.args.operands c.args.next offset is frames is.arguments)
    c.from_residual.result c.from_residual.ensures.1

pub returns : goal.returns
returns c = λ t trees bounds inflated state frame rest offset is frames.
    let p = c.args.program.now in
    let old = c.args.shared.now in
    let from = c.args.stack.now in
    let called = method.ObjectAnswers asked.ClassName in
    let r = is.arguments in
    let text = dotted (class_described trees r.reference) in
    let number : c.object.result ≡ r.reference = c.object.ensures ∙ object_is trees p bounds inflated t old from state frame rest called c.args.operands c.args.next offset is 0 is_any r in
    let text_is : c.deref.result.now ≡ text =
    c.deref.ensures.value ∙ c.in_ok-name.ensures ∙ ap (name_in p) (c.saturating_sub-class.ensures ∙ ap (λ n. n - first_class_reference) number) ∙ described_is trees p is.program c.classes_are_read.ensures.holds r.reference
    in
    let some : 0 < length (take c.args.operands frame.place.slots.stack) = omega (arith, slice_get_within (take c.args.operands frame.place.slots.stack) 0 (suc r.reference) r.word) in
    composed trees p bounds inflated t old from state frame rest asked.ClassName c.args.operands c.args.next offset is frames text
    (told trees p bounds inflated t old from state frame rest asked.ClassName c.args.operands c.args.next offset is frames r)
    c.deref.result.now (sym text_is) c.give_text.result c.give_text.new.shared c.give_text.new.stack
    (c.give_text.ensures trees p bounds inflated t state frame rest called offset is (subst AreUnits (sym text_is) (dotted_units (class_described trees r.reference))) some frames)
