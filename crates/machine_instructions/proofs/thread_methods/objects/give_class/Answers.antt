use Rattle.std.proofs.Common.{◌≡◌, ◌<◌, ◌^◌, suc, sym, ap, ◌∙◌}
use Rattle.std.specs.Prelude.{option_map, slice_get}
use Rattle.std.proofs.lemmas.Option.{get_or_from_slice_get}
use Rattle.model.specs.declared.object_method.ObjectMethod.TheVariants as asked
use Rattle.model.specs.ObjectMethods.{class_answer}
use Rattle.model.specs.State.{type_of}
use Rattle.model.specs.Worlds.{no_object}
use Rattle.heap.specs.Heap.{kind_of}
use Rattle.linked_code.specs.declared.method.BuiltInMethod.TheVariants as method
use Rattle.run_laws.specs.word_operands.Receivers.{is_any}
use Rattle.machine_state.specs.exception_handlers.Errors.{class_in}
use Rattle.machine_state.proofs.shown_objects.Objects.{shown_at}
use Rattle.machine_state.proofs.type_tests.Numbered.{small}
use Rattle.machine_instructions.proofs.called_methods.ClassObjects.{reference_is}
use Rattle.machine_instructions.proofs.thread_methods.Calls.{object_is}
use Rattle.machine_instructions.proofs.thread_methods.ClassAnswers.{of_array, of_instance}
use Rattle.machine_instructions.proofs.thread_methods.ObjectCalls.{gives_class, has_none, told}
use Rattle.machine_instructions.proofs.thread_methods.objects.give_class.Goals as goal

pub returns-in-Some : goal.returns-in-Some
returns-in-Some c = λ t p trees bounds inflated state frame rest offset is frames.
    let old = c.args.shared.now in
    let from = c.args.stack.now in
    let called = method.ObjectAnswers asked.GetClass in
    let r = is.arguments in
    let object : c.object.result ≡ r.reference = c.object.ensures ∙ object_is trees p bounds inflated t old from state frame rest called c.args.operands c.args.next offset is 0 is_any r in
    let found = shown_at trees p.components.items old.heap.objects state.world.heap r.reference r.object is.lent.represents.world_is.objects r.there in
    let class_is = c.in-Some.ensures ∙ ap (λ n. class_in (option_map kind_of (slice_get old.heap.objects n))) object ∙ ap (λ o. class_in (option_map kind_of o)) found.1 in
    let h = of_instance trees p found.0.kind r.object found.2.kind c.in-Some.class class_is in
    let type_is = ap type_of (get_or_from_slice_get state.world.heap r.reference r.object no_object r.there) ∙ h.is in
    let fits : c.in-Some.class < 2 ^ 16 = small is.program.files trees is.program.linkable c.in-Some.class h.class h.numbered in
    gives_class trees p bounds inflated t old from state frame rest asked.GetClass c.args.operands c.args.next offset is frames h.class
    (sym (ap class_answer type_is) ∙ told trees p bounds inflated t old from state frame rest asked.GetClass c.args.operands c.args.next offset is frames r)
    c.class_word.result (c.class_word.ensures fits ∙ ap suc (reference_is trees is.program.linkable.no_refusal c.in-Some.class h.class h.numbered))
    c.answer.result c.answer.new.stack c.answer.ensures

pub returns-in-None : goal.returns-in-None
returns-in-None c = λ t p trees bounds inflated state frame rest offset is frames.
    let old = c.args.shared.now in
    let from = c.args.stack.now in
    let called = method.ObjectAnswers asked.GetClass in
    let r = is.arguments in
    let object : c.object.result ≡ r.reference = c.object.ensures ∙ object_is trees p bounds inflated t old from state frame rest called c.args.operands c.args.next offset is 0 is_any r in
    let found = shown_at trees p.components.items old.heap.objects state.world.heap r.reference r.object is.lent.represents.world_is.objects r.there in
    let none = c.in-None.ensures ∙ ap (λ n. class_in (option_map kind_of (slice_get old.heap.objects n))) object ∙ ap (λ o. class_in (option_map kind_of o)) found.1 in
    let type_is = ap type_of (get_or_from_slice_get state.world.heap r.reference r.object no_object r.there) in
    has_none trees p bounds inflated t old from state frame rest asked.GetClass c.args.operands c.args.next offset is frames
    (sym (ap class_answer type_is ∙ of_array trees p found.0.kind r.object found.2.kind none)
    ∙ told trees p bounds inflated t old from state frame rest asked.GetClass c.args.operands c.args.next offset is frames r)
