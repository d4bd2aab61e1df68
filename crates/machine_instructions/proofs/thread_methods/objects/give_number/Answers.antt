use Rattle.std.proofs.Common.{◌≡◌, ◌<◌, ◌^◌, ◌-◌, ◌%◌, take, rules, sym, ap, ◌∙◌}
use Rattle.std.specs.Prelude.{slice_index_or}
use Rattle.std.proofs.Math.Nat.{mod-eq_of_lt}
use Rattle.model.specs.declared.object_method.ObjectMethod.TheVariants as asked
use Rattle.model.specs.Operands.{words}
use Rattle.model.specs.Sites.{int_operand}
use Rattle.linked_code.specs.declared.method.BuiltInMethod.TheVariants as method
use Rattle.run_laws.specs.word_operands.Receivers.{is_any}
use Rattle.machine_instructions.proofs.thread_methods.Calls.{object_is, operand_is}
use Rattle.machine_instructions.proofs.thread_methods.StringCalls.{taken}
use Rattle.machine_instructions.proofs.thread_methods.ObjectCalls.{gives, told, identity}
use Rattle.machine_instructions.proofs.thread_methods.objects.give_number.Goals as goal

pub returns-clause-hash : goal.returns-clause-hash
returns-clause-hash c = λ shared t p trees bounds inflated state frame rest offset is frames.
    let called = method.ObjectAnswers asked.HashCode in
    let r = is.arguments in
    let number : c.object-number.result ≡ r.reference =
    c.object-number.ensures ∙ object_is trees p bounds inflated t shared c.args.stack.now state frame rest called c.args.operands c.args.next offset is 0 is_any r
    in
    let fits : c.object-number.result < 2 ^ 32 = search (rules, c.object-number.type_inv) in
    gives trees p bounds inflated t shared c.args.stack.now state frame rest asked.HashCode c.args.operands c.args.next offset is frames (r.reference % 2 ^ 32)
    (told trees p bounds inflated t shared c.args.stack.now state frame rest asked.HashCode c.args.operands c.args.next offset is frames r)
    c.object-number.result (sym (mod-eq_of_lt fits) ∙ ap (λ n. n % 2 ^ 32) number) c.answer.result c.answer.new.stack c.answer.ensures

pub returns-clause-identity : goal.returns-clause-identity
returns-clause-identity c = λ shared t p trees bounds inflated state frame rest offset is frames.
    let called = method.ObjectAnswers asked.IdentityHashCode in
    let ops = take c.args.operands frame.place.slots.stack in
    let w = slice_index_or ops 0 0 in
    let number : c.object-number.result ≡ w - 1 =
    c.object-number.ensures
    ∙ ap (λ n. n - 1) (operand_is trees p bounds inflated t shared c.args.stack.now state frame rest called c.args.operands c.args.next offset is 0
    ∙ sym (taken c.args.operands frame.place.slots.stack 0 is.arguments))
    in
    let fits : c.object-number.result < 2 ^ 32 = search (rules, c.object-number.type_inv) in
    gives trees p bounds inflated t shared c.args.stack.now state frame rest asked.IdentityHashCode c.args.operands c.args.next offset is frames ((w - 1) % 2 ^ 32)
    (identity trees state.world (int_operand words ops 0) w)
    c.object-number.result (sym (mod-eq_of_lt fits) ∙ ap (λ n. n % 2 ^ 32) number) c.answer.result c.answer.new.stack c.answer.ensures
