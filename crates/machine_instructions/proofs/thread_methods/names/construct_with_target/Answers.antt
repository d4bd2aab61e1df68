use Rattle.std.proofs.Common.{◌≡◌, ℕ, [], length, refl, sym, ap, subst, arith, ◌∙◌}
use Rattle.std.specs.Prelude.{slice_index_or}
use Rattle.model.specs.declared.name_method.NameMethod.TheVariants as names
use Rattle.model.specs.BuiltInMethods.{object_of}
use Rattle.model.specs.Operands.{words}
use Rattle.model.specs.ThreadNames.{with_ordinal_and_target}
use Rattle.linked_code.specs.declared.method.BuiltInMethod.TheVariants as method
use Rattle.heap.specs.Heap.{put_field}
use Rattle.machine_state.specs.Shown.{Represents}
use Rattle.machine_state.specs.declared.state.Shared.{Shared}
use Rattle.machine_instructions.specs.thread_methods.Naming.{numbered}
use Rattle.machine_instructions.proofs.thread_methods.Calls.{free}
use Rattle.machine_instructions.proofs.thread_methods.NamedThreads.{code_reads, enough, object_is_thread, ops, read, reference, target_and_number_put}
use Rattle.machine_instructions.proofs.thread_methods.Written.{with_word_in}
use Rattle.machine_instructions.proofs.thread_methods.names.construct_with_target.Goals as goal

pub returns : goal.returns
returns c = λ t p trees bounds inflated state frame rest offset is frames.
    let old = c.args.shared.now in
    let from = c.args.stack.now in
    let new = c.number.new.shared in
    let count = c.args.operands in
    let next = c.args.next in
    let m = names.ConstructWithTarget in
    let thread = reference trees p bounds inflated t old from state frame rest m count next offset is in
    let operands = ops trees p bounds inflated t old from state frame rest m count next offset is in
    let target = slice_index_or operands 0 0 in
    let thread_is = code_reads trees p bounds inflated t old from state frame rest m count next offset is c.object-thread.result c.object-thread.ensures in
    let target_is : c.operand-target.result ≡ target =
    c.operand-target.ensures ∙ read trees p bounds inflated t old from state frame rest m count next offset is 0 (omega (arith, enough trees p bounds inflated t old from state frame rest m count next offset is)) in
    let put_is : record old { heap = c.put_field.new.self } ≡ with_word_in old thread 0 target =
    ap (λ h. record old { heap = h }) c.put_field.ensures
    ∙ (λ i. record old { heap = record old.heap { objects = put_field old.heap.objects (thread_is i) 0 (target_is i) } }) in
    let new_is : new ≡ numbered (with_word_in old thread 0 target) thread = c.number.ensures ∙ (λ i. numbered (put_is i) (thread_is i)) in
    let shows : Represents trees p bounds new (with_ordinal_and_target words state.world (object_of words operands 1) target) =
    subst (λ r. Represents trees p bounds new (with_ordinal_and_target words state.world r target)) (sym (object_is_thread trees p bounds inflated t old from state frame rest m count next offset is))
    (subst (λ (s : Shared). Represents trees p bounds s (with_ordinal_and_target words state.world thread target)) (sym new_is)
    (target_and_number_put trees p bounds inflated t old from state frame rest m count next offset is target))
    in
    free trees p bounds inflated t old from state frame rest (method.ThreadNames m) count next offset is _ new shows
    (ap (λ (s : Shared). s.heap.locks.fat) new_is) (ap (λ (s : Shared). s.stacks.items) new_is) (ap (λ (s : Shared). length s.threads.threads) new_is) c.go_on.new.stack [] c.go_on.ensures
