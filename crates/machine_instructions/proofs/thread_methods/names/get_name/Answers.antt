use Rattle.std.proofs.Common.{◌≡◌, ◌<◌, ◌≤◌, ◌+◌, ◌^◌, ℕ, [], length, refl, rules, sym, ap, subst, arith, ◌∙◌, Ok, ◌∷◌}
use Rattle.std.specs.Prelude.{slice_index_or, drop}
use Rattle.model.specs.declared.name_method.NameMethod.TheVariants as names
use Rattle.model.specs.BuiltInMethods.{object_of}
use Rattle.model.specs.Operands.{words}
use Rattle.model.specs.Sites.{pushing}
use Rattle.model.specs.State as model
use Rattle.model.specs.ThreadNames.{with_name, with_name_and_target}
use Rattle.heap.specs.Heap.{put_field, word_at, with_object, IsRefused}
use Rattle.linked_code.specs.declared.method.BuiltInMethod.TheVariants as method
use Rattle.machine_state.specs.Shown.{Represents}
use Rattle.machine_state.specs.declared.state.Shared.{Shared}
use Rattle.machine_state.specs.declared.answers.Effect.TheVariants as effect
use Rattle.machine_state.specs.allocations.Allocated.{string_of}
use Rattle.machine_state.specs.Instructions.{Does}
use Rattle.machine_instructions.specs.thread_methods.Naming.{numbered_name}
use Rattle.machine_instructions.proofs.thread_methods.Calls.{free}
use Rattle.machine_instructions.proofs.thread_methods.NamedCalls.{none_raises, some_done, event_is, gives, makes, unmade, lacks_units, giving, thread}
use Rattle.machine_instructions.proofs.thread_methods.NamedThreads.{code_reads, enough, name_put, object_is_thread, ops, read, reference, target_and_name_put}
use Rattle.machine_instructions.proofs.thread_methods.Written.{with_word_in}
use Rattle.machine_instructions.proofs.thread_methods.names.get_name.Goals as goal

pub returns-then-name-ne0 : goal.returns-then-name-ne0
returns-then-name-ne0 c = λ t p trees bounds inflated state frame rest offset is frames.
    let old = c.args.shared.now in
    let from = c.args.stack.now in
    let m = names.GetName in
    let count = c.args.operands in
    let next = c.args.next in
    let r = thread trees p bounds inflated t old from state frame rest count next offset is frames in
    let thread_is = code_reads trees p bounds inflated t old from state frame rest m count next offset is c.object-thread.result c.object-thread.ensures in
    let name_is : c.get_field-name.result ≡ word_at old.heap.objects r 1 = c.get_field-name.ensures ∙ ap (λ n. word_at old.heap.objects n 1) thread_is in
    subst (λ stepped. Does trees p bounds inflated t state.world (model.Invocation frame ∷ rest) stepped c.answer.result old old from c.answer.new.stack)
    ((λ i. giving trees p bounds inflated t old from state frame rest count next offset is frames (name_is i) (word_at old.heap.objects r 2)) ∙ event_is trees p bounds inflated t old from state frame rest count next offset is frames)
    (gives trees p bounds inflated t old from state frame rest count next offset is frames c.get_field-name.result (word_at old.heap.objects r 2) c.if-name-ne0.true c.answer.result c.answer.new.stack c.answer.ensures)

pub returns-in_err-text : goal.returns-in_err-text
returns-in_err-text c = λ t p trees bounds inflated state frame rest offset is frames.
    let old = c.args.shared.now in
    let from = c.args.stack.now in
    let m = names.GetName in
    let count = c.args.operands in
    let next = c.args.next in
    let r = thread trees p bounds inflated t old from state frame rest count next offset is frames in
    let thread_is = code_reads trees p bounds inflated t old from state frame rest m count next offset is c.object-thread.result c.object-thread.ensures in
    let name_is : 0 ≡ word_at old.heap.objects r 1 = sym c.if-name-ne0.false ∙ (c.get_field-name.ensures ∙ ap (λ n. word_at old.heap.objects n 1) thread_is) in
    subst (λ stepped. Does trees p bounds inflated t state.world (model.Invocation frame ∷ rest) stepped c.from_residual.result old old from from)
    ((λ i. giving trees p bounds inflated t old from state frame rest count next offset is frames (name_is i) (word_at old.heap.objects r 2)) ∙ event_is trees p bounds inflated t old from state frame rest count next offset is frames)
    (lacks_units trees p bounds inflated t old from state frame rest count next offset is frames (word_at old.heap.objects r 2) c.from_residual.result c.from_residual.ensures.1)

pub returns-in_err-add_string : goal.returns-in_err-add_string
returns-in_err-add_string c = λ t p trees bounds inflated state frame rest offset is frames.
    let old = c.args.shared.now in
    let from = c.args.stack.now in
    let m = names.GetName in
    let count = c.args.operands in
    let next = c.args.next in
    let r = thread trees p bounds inflated t old from state frame rest count next offset is frames in
    let thread_is = code_reads trees p bounds inflated t old from state frame rest m count next offset is c.object-thread.result c.object-thread.ensures in
    let name_is : 0 ≡ word_at old.heap.objects r 1 = sym c.if-name-ne0.false ∙ (c.get_field-name.ensures ∙ ap (λ n. word_at old.heap.objects n 1) thread_is) in
    let number = word_at old.heap.objects r 2 in
    let text_is : c.as_slice.result.now ≡ numbered_name number = c.as_slice.ensures.value ∙ (c.in_ok-text.ensures ∙ ap (λ n. numbered_name (word_at old.heap.objects n 2)) thread_is) in
    let why = c.in_err-add_string.field-0.0 in
    let new = record old { heap = c.add_string.new.heap } in
    subst (λ stepped. Does trees p bounds inflated t state.world (model.Invocation frame ∷ rest) stepped c.from_residual-in_err-add_string.result old new from from)
    ((λ i. giving trees p bounds inflated t old from state frame rest count next offset is frames (name_is i) number) ∙ event_is trees p bounds inflated t old from state frame rest count next offset is frames)
    (unmade trees p bounds inflated t old from state frame rest count next offset is frames number why c.add_string.new.heap
    (subst (λ units. IsRefused why (length units) old.heap c.add_string.new.heap) text_is c.in_err-add_string.ensures.err)
    c.from_residual-in_err-add_string.result c.from_residual-in_err-add_string.ensures.1)

pub returns : goal.returns
returns c = λ t p trees bounds inflated state frame rest offset is frames.
    let old = c.args.shared.now in
    let from = c.args.stack.now in
    let m = names.GetName in
    let count = c.args.operands in
    let next = c.args.next in
    let r = thread trees p bounds inflated t old from state frame rest count next offset is frames in
    let thread_is = code_reads trees p bounds inflated t old from state frame rest m count next offset is c.object-thread.result c.object-thread.ensures in
    let name_is : 0 ≡ word_at old.heap.objects r 1 = sym c.if-name-ne0.false ∙ (c.get_field-name.ensures ∙ ap (λ n. word_at old.heap.objects n 1) thread_is) in
    let number = word_at old.heap.objects r 2 in
    let text_is : c.as_slice.result.now ≡ numbered_name number = c.as_slice.ensures.value ∙ (c.in_ok-text.ensures ∙ ap (λ n. numbered_name (word_at old.heap.objects n 2)) thread_is) in
    let added = c.in_ok-add_string.ensures in
    let fits : c.len-word.result < 2 ^ 32 = search (rules, c.len-word.type_inv) in
    let new = record old { heap = c.put_field.new.self } in
    subst (λ stepped. Does trees p bounds inflated t state.world (model.Invocation frame ∷ rest) stepped c.answer-2.result old new from c.answer-2.new.stack)
    ((λ i. giving trees p bounds inflated t old from state frame rest count next offset is frames (name_is i) number) ∙ event_is trees p bounds inflated t old from state frame rest count next offset is frames)
    (makes trees p bounds inflated t old from state frame rest count next offset is frames number c.add_string.new.heap
    (added.ok ∙ ap (λ units. with_object old.heap (string_of units) (length units)) text_is) added.opened added.objects
    (subst (λ units. old.heap.counted + length units ≤ old.heap.cell_limit) text_is added.cells)
    c.len-word.result c.len-word.ensures.objects fits c.object-thread.result thread_is c.put_field.new.self c.put_field.ensures
    c.answer-2.result c.answer-2.new.stack c.answer-2.ensures)
