use Rattle.std.proofs.Common.{◌≡◌, ℕ, suc, [], Some, take, refl, sym, ap, subst, arith, ◌∙◌}
use Rattle.std.specs.Prelude.{slice_get, slice_index_or}
use Rattle.std.proofs.lemmas.Option.{slice_get_within}
use Rattle.model.specs.Names.{java_lang_throwable, throwable_message, throwable_cause}
use Rattle.model.specs.BuiltInMethods.{object_of}
use Rattle.model.specs.Operands.{words}
use Rattle.model.specs.State.{ObjectOf, Instance, WorldOf}
use Rattle.model.specs.Worlds.{with_field, with_object, object_at}
use Rattle.heap.specs.Heap.{Heap, put_field}
use Rattle.run_laws.proofs.laws.LinkedOf.{linked_of}
use Rattle.run_laws.specs.word_operands.Receivers.{has_class_below}
use Rattle.linked_code.specs.declared.method.BuiltInMethod.TheVariants as method
use Rattle.machine_state.specs.Shown.{Represents}
use Rattle.machine_instructions.proofs.thread_methods.Calls.{free, object_is, object_read, operand_is}
use Rattle.machine_instructions.proofs.thread_methods.StringCalls.{taken}
use Rattle.machine_instructions.proofs.thread_methods.ThrowableFields.{message_slot, cause_slot, instance}
use Rattle.machine_instructions.proofs.thread_methods.Written.{twice_written, with_word_in}
use Rattle.machine_instructions.proofs.thread_methods.messages.set_cause.Goals as goal

pub returns : goal.returns
returns c = λ t p trees bounds inflated state frame rest offset is frames.
    let old = c.args.shared.now in
    let from = c.args.stack.now in
    let world = state.world in
    let refers = is.arguments in
    let called = method.ConstructWithCause in
    let below = has_class_below trees java_lang_throwable in
    let operands = take c.args.operands frame.place.slots.stack in
    let within = slice_get_within operands 2 (suc refers.reference) refers.word in
    let reads : object_of words operands 2 ≡ refers.reference = object_read trees p bounds inflated t old from state frame rest called c.args.operands c.args.next offset is 2 below refers in
    let kept : c.object-exception.result ≡ refers.reference = c.object-exception.ensures ∙ object_is trees p bounds inflated t old from state frame rest called c.args.operands c.args.next offset is 2 below refers in
    let message : c.operand-message.result ≡ slice_index_or operands 1 0 =
    c.operand-message.ensures ∙ operand_is trees p bounds inflated t old from state frame rest called c.args.operands c.args.next offset is 1
    ∙ sym (taken c.args.operands frame.place.slots.stack 1 (omega (arith, within)))
    in
    let cause : c.operand-cause.result ≡ slice_index_or operands 0 0 =
    c.operand-cause.ensures ∙ operand_is trees p bounds inflated t old from state frame rest called c.args.operands c.args.next offset is 0
    ∙ sym (taken c.args.operands frame.place.slots.stack 0 (omega (arith, within)))
    in
    let i = instance trees refers.object refers.fits in
    let there : slice_get world.heap refers.reference ≡ Some (Instance i.0 i.1.0) = refers.there ∙ ap (λ (o : ObjectOf ℕ). Some o) i.1.1 in
    let rooted = (linked_of is.program.files trees is.program.linkable.spelled is.program.linkable.no_refusal).rooted in
    let m = slice_index_or operands 1 0 in
    let v = slice_index_or operands 0 0 in
    let new = record old { heap = c.put_field-2.new.self } in
    let first_is : c.put_field.new.self ≡ (with_word_in old refers.reference 0 m).heap =
    c.put_field.ensures ∙ (λ i. record old.heap { objects = put_field old.heap.objects (kept i) 0 (message i) })
    in
    let heap_is : c.put_field-2.new.self ≡ (with_word_in (with_word_in old refers.reference 0 m) refers.reference 1 v).heap =
    c.put_field-2.ensures ∙ (λ i. record (first_is i) { objects = put_field (first_is i).objects (kept i) 1 (cause i) })
    in
    let set : ℕ → WorldOf ℕ = λ r. with_object world r (with_field throwable_cause v (with_field throwable_message m (object_at world r))) in
    let shows : Represents trees p bounds new (set (object_of words operands 2)) =
    subst (λ r. Represents trees p bounds new (set r)) (sym reads)
    (subst (λ (h : Heap). Represents trees p bounds (record old { heap = h }) (set refers.reference)) (sym heap_is)
    (twice_written trees p bounds world old is.lent.represents refers.reference i.0 i.1.0 there throwable_message throwable_cause 0 1
    (message_slot trees rooted i.0 i.1.2) (cause_slot trees rooted i.0 i.1.2) m v))
    in
    free trees p bounds inflated t old from state frame rest called c.args.operands c.args.next offset is _ new shows
    (ap (λ (h : Heap). h.locks.fat) heap_is) refl refl c.go_on.new.stack [] c.go_on.ensures
