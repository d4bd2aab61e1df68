use Rattle.std.proofs.Common.{◌≡◌, ℕ, suc, [], Some, take, refl, sym, ap, subst, arith, ◌∙◌}
use Rattle.std.specs.Prelude.{slice_get, slice_index_or}
use Rattle.std.proofs.lemmas.Option.{slice_get_within}
use Rattle.model.specs.Names.{java_lang_throwable, throwable_message}
use Rattle.model.specs.BuiltInMethods.{object_of}
use Rattle.model.specs.Operands.{words}
use Rattle.model.specs.State.{ObjectOf, Instance}
use Rattle.model.specs.Worlds.{with_field, with_object, object_at}
use Rattle.heap.specs.Heap.{Heap, put_field}
use Rattle.run_laws.proofs.laws.LinkedOf.{linked_of}
use Rattle.run_laws.specs.word_operands.Receivers.{has_class_below}
use Rattle.linked_code.specs.declared.method.BuiltInMethod.TheVariants as method
use Rattle.machine_state.specs.Shown.{Represents}
use Rattle.machine_instructions.proofs.thread_methods.Calls.{free, first_taken, object_is, object_read, operand_is}
use Rattle.machine_instructions.proofs.thread_methods.ThrowableFields.{message_slot, instance}
use Rattle.machine_instructions.proofs.thread_methods.Written.{written, with_word_in}
use Rattle.machine_instructions.proofs.thread_methods.messages.set_message.Goals as goal

pub returns : goal.returns
returns c = λ t p trees bounds inflated state frame rest offset is frames.
    let old = c.args.shared.now in
    let from = c.args.stack.now in
    let world = state.world in
    let refers = is.arguments in
    let called = method.ConstructWithMessage in
    let below = has_class_below trees java_lang_throwable in
    let operands = take c.args.operands frame.place.slots.stack in
    let reads : object_of words operands 1 ≡ refers.reference = object_read trees p bounds inflated t old from state frame rest called c.args.operands c.args.next offset is 1 below refers in
    let kept : c.object.result ≡ refers.reference = c.object.ensures ∙ object_is trees p bounds inflated t old from state frame rest called c.args.operands c.args.next offset is 1 below refers in
    let message : c.operand-message.result ≡ slice_index_or operands 0 0 =
    c.operand-message.ensures ∙ operand_is trees p bounds inflated t old from state frame rest called c.args.operands c.args.next offset is 0
    ∙ sym (first_taken c.args.operands frame.place.slots.stack (omega (arith, slice_get_within operands 1 (suc refers.reference) refers.word)))
    in
    let i = instance trees refers.object refers.fits in
    let there : slice_get world.heap refers.reference ≡ Some (Instance i.0 i.1.0) = refers.there ∙ ap (λ (o : ObjectOf ℕ). Some o) i.1.1 in
    let rooted = (linked_of is.program.files trees is.program.linkable.spelled is.program.linkable.no_refusal).rooted in
    let value = slice_index_or operands 0 0 in
    let new = record old { heap = c.put_field.new.self } in
    let heap_is : c.put_field.new.self ≡ (with_word_in old refers.reference 0 value).heap =
    c.put_field.ensures ∙ (λ i. record old.heap { objects = put_field old.heap.objects (kept i) 0 (message i) })
    in
    let shows : Represents trees p bounds new (with_object world (object_of words operands 1) (with_field throwable_message value (object_at world (object_of words operands 1)))) =
    subst (λ r. Represents trees p bounds new (with_object world r (with_field throwable_message value (object_at world r)))) (sym reads)
    (subst (λ (h : Heap). Represents trees p bounds (record old { heap = h }) (with_object world refers.reference (with_field throwable_message value (object_at world refers.reference)))) (sym heap_is)
    (written trees p bounds world old is.lent.represents refers.reference i.0 i.1.0 there throwable_message 0 (message_slot trees rooted i.0 i.1.2) value))
    in
    free trees p bounds inflated t old from state frame rest called c.args.operands c.args.next offset is _ new shows
    (ap (λ (h : Heap). h.locks.fat) heap_is) refl refl c.go_on.new.stack [] c.go_on.ensures
