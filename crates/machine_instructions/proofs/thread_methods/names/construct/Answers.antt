use Rattle.std.proofs.Common.{◌≡◌, ℕ, [], length, refl, sym, ap, subst, ◌∙◌}
use Rattle.model.specs.declared.name_method.NameMethod.TheVariants as names
use Rattle.model.specs.BuiltInMethods.{object_of}
use Rattle.model.specs.Operands.{words}
use Rattle.model.specs.ThreadNames.{with_ordinal}
use Rattle.linked_code.specs.declared.method.BuiltInMethod.TheVariants as method
use Rattle.machine_state.specs.Shown.{Represents}
use Rattle.machine_state.specs.declared.state.Shared.{Shared}
use Rattle.machine_instructions.specs.thread_methods.Naming.{numbered}
use Rattle.machine_instructions.proofs.thread_methods.Calls.{free}
use Rattle.machine_instructions.proofs.thread_methods.NamedThreads.{code_reads, object_is_thread, number_put, ops, reference}
use Rattle.machine_instructions.proofs.thread_methods.names.construct.Goals as goal

pub returns : goal.returns
returns c = λ t p trees bounds inflated state frame rest offset is frames.
    let old = c.args.shared.now in
    let from = c.args.stack.now in
    let new = c.number.new.shared in
    let count = c.args.operands in
    let next = c.args.next in
    let thread = reference trees p bounds inflated t old from state frame rest names.Construct count next offset is in
    let new_is : new ≡ numbered old thread =
    c.number.ensures ∙ ap (numbered old) (code_reads trees p bounds inflated t old from state frame rest names.Construct count next offset is c.object.result c.object.ensures) in
    let shows : Represents trees p bounds new (with_ordinal words state.world (object_of words (ops trees p bounds inflated t old from state frame rest names.Construct count next offset is) 0)) =
    subst (λ r. Represents trees p bounds new (with_ordinal words state.world r)) (sym (object_is_thread trees p bounds inflated t old from state frame rest names.Construct count next offset is))
    (subst (λ (s : Shared). Represents trees p bounds s (with_ordinal words state.world thread)) (sym new_is) (number_put trees p bounds inflated t old from state frame rest names.Construct count next offset is))
    in
    free trees p bounds inflated t old from state frame rest (method.ThreadNames names.Construct) count next offset is _ new shows
    (ap (λ (s : Shared). s.heap.locks.fat) new_is) (ap (λ (s : Shared). s.stacks.items) new_is) (ap (λ (s : Shared). length s.threads.threads) new_is) c.go_on.new.stack [] c.go_on.ensures
