use Rattle.std.proofs.Common.{◌≡◌, ◌<◌, ◌≤◌, ◌+◌, ◌^◌, ℕ, [], length, refl, rules, sym, ap, subst, arith, ◌∙◌, Ok, ◌∷◌}
use Rattle.std.specs.Prelude.{slice_index_or, drop}
use Rattle.model.specs.declared.name_method.NameMethod.TheVariants as names
use Rattle.model.specs.BuiltInMethods.{object_of}
use Rattle.model.specs.Operands.{words}
use Rattle.model.specs.Sites.{pushing}
use Rattle.model.specs.State as model
use Rattle.model.specs.ThreadNames.{with_name, with_name_and_target}
use Rattle.heap.specs.Heap.{put_field, word_at, with_object, IsRefused}
use Rattle.linked_code.specs.declared.method.BuiltInMethod.TheVariants as method
use Rattle.machine_state.specs.Shown.{Represents}
use Rattle.machine_state.specs.declared.state.Shared.{Shared}
use Rattle.machine_state.specs.declared.answers.Effect.TheVariants as effect
use Rattle.machine_state.specs.allocations.Allocated.{string_of}
use Rattle.machine_state.specs.Instructions.{Does}
use Rattle.machine_instructions.specs.thread_methods.Naming.{numbered_name}
use Rattle.machine_instructions.proofs.thread_methods.Calls.{free}
use Rattle.machine_instructions.proofs.thread_methods.NamedCalls.{none_raises, some_done, event_is, gives, makes, unmade, lacks_units, giving, thread}
use Rattle.machine_instructions.proofs.thread_methods.NamedThreads.{code_reads, enough, name_put, object_is_thread, ops, read, reference, target_and_name_put}
use Rattle.machine_instructions.proofs.thread_methods.Written.{with_word_in}
use Rattle.machine_instructions.proofs.thread_methods.names.set_name.Goals as goal

pub returns-then-name-eq0-clause-construct : goal.returns-then-name-eq0-clause-construct
returns-then-name-eq0-clause-construct c = λ t p trees bounds inflated state frame rest offset is frames.
    let old = c.args.shared.now in
    let from = c.args.stack.now in
    let m = names.ConstructWithName in
    let operands = ops trees p bounds inflated t old from state frame rest m c.args.operands c.args.next offset is in
    let is_name : c.operand-name.result ≡ slice_index_or operands 0 0 =
    c.operand-name.ensures ∙ read trees p bounds inflated t old from state frame rest m c.args.operands c.args.next offset is 0 (omega (arith, enough trees p bounds inflated t old from state frame rest m c.args.operands c.args.next offset is)) in
    none_raises trees p bounds inflated t old from state frame rest frames
    (pushing offset [] (with_name state.world (object_of words operands 1) (slice_index_or operands 0 0)) frame.place.slots (drop c.args.operands frame.place.slots.stack))
    (slice_index_or operands 0 0) (sym is_name ∙ c.if-name-eq0.true)

pub returns-clause-construct : goal.returns-clause-construct
returns-clause-construct c = λ t p trees bounds inflated state frame rest offset is frames.
    let old = c.args.shared.now in
    let from = c.args.stack.now in
    let m = names.ConstructWithName in
    let count = c.args.operands in
    let next = c.args.next in
    let operands = ops trees p bounds inflated t old from state frame rest m count next offset is in
    let name = slice_index_or operands 0 0 in
    let thread = reference trees p bounds inflated t old from state frame rest m count next offset is in
    let is_name : c.operand-name.result ≡ name =
    c.operand-name.ensures ∙ read trees p bounds inflated t old from state frame rest m count next offset is 0 (omega (arith, enough trees p bounds inflated t old from state frame rest m count next offset is)) in
    let thread_is = code_reads trees p bounds inflated t old from state frame rest m count next offset is c.object.result c.object.ensures in
    let new = record old { heap = c.put_field.new.self } in
    let new_is : new ≡ with_word_in old thread 1 name =
    ap (λ h. record old { heap = h }) c.put_field.ensures
    ∙ (λ i. record old { heap = record old.heap { objects = put_field old.heap.objects (thread_is i) 1 (is_name i) } }) in
    let after = with_name state.world (object_of words operands 1) name in
    let shows : Represents trees p bounds new after =
    subst (λ r. Represents trees p bounds new (with_name state.world r name)) (sym (object_is_thread trees p bounds inflated t old from state frame rest m count next offset is))
    (subst (λ (s : Shared). Represents trees p bounds s (with_name state.world thread name)) (sym new_is) (name_put trees p bounds inflated t old from state frame rest m count next offset is name)) in
    subst (λ stepped. Does trees p bounds inflated t state.world (model.Invocation frame ∷ rest) stepped (Ok effect.Done) old new from c.go_on.new.stack)
    (sym (some_done trees p bounds inflated t old from state frame rest frames (pushing offset [] after frame.place.slots (drop count frame.place.slots.stack)) name (λ none. c.if-name-eq0.false (is_name ∙ none))))
    (free trees p bounds inflated t old from state frame rest (method.ThreadNames m) count next offset is after new shows
    (ap (λ (s : Shared). s.heap.locks.fat) new_is) refl refl c.go_on.new.stack [] c.go_on.ensures)

pub returns-then-name-eq0-clause-set : goal.returns-then-name-eq0-clause-set
returns-then-name-eq0-clause-set c = λ t p trees bounds inflated state frame rest offset is frames.
    let old = c.args.shared.now in
    let from = c.args.stack.now in
    let m = names.SetName in
    let operands = ops trees p bounds inflated t old from state frame rest m c.args.operands c.args.next offset is in
    let is_name : c.operand-name.result ≡ slice_index_or operands 0 0 =
    c.operand-name.ensures ∙ read trees p bounds inflated t old from state frame rest m c.args.operands c.args.next offset is 0 (omega (arith, enough trees p bounds inflated t old from state frame rest m c.args.operands c.args.next offset is)) in
    none_raises trees p bounds inflated t old from state frame rest frames
    (pushing offset [] (with_name state.world (object_of words operands 1) (slice_index_or operands 0 0)) frame.place.slots (drop c.args.operands frame.place.slots.stack))
    (slice_index_or operands 0 0) (sym is_name ∙ c.if-name-eq0.true)

pub returns-clause-set : goal.returns-clause-set
returns-clause-set c = λ t p trees bounds inflated state frame rest offset is frames.
    let old = c.args.shared.now in
    let from = c.args.stack.now in
    let m = names.SetName in
    let count = c.args.operands in
    let next = c.args.next in
    let operands = ops trees p bounds inflated t old from state frame rest m count next offset is in
    let name = slice_index_or operands 0 0 in
    let thread = reference trees p bounds inflated t old from state frame rest m count next offset is in
    let is_name : c.operand-name.result ≡ name =
    c.operand-name.ensures ∙ read trees p bounds inflated t old from state frame rest m count next offset is 0 (omega (arith, enough trees p bounds inflated t old from state frame rest m count next offset is)) in
    let thread_is = code_reads trees p bounds inflated t old from state frame rest m count next offset is c.object.result c.object.ensures in
    let new = record old { heap = c.put_field.new.self } in
    let new_is : new ≡ with_word_in old thread 1 name =
    ap (λ h. record old { heap = h }) c.put_field.ensures
    ∙ (λ i. record old { heap = record old.heap { objects = put_field old.heap.objects (thread_is i) 1 (is_name i) } }) in
    let after = with_name state.world (object_of words operands 1) name in
    let shows : Represents trees p bounds new after =
    subst (λ r. Represents trees p bounds new (with_name state.world r name)) (sym (object_is_thread trees p bounds inflated t old from state frame rest m count next offset is))
    (subst (λ (s : Shared). Represents trees p bounds s (with_name state.world thread name)) (sym new_is) (name_put trees p bounds inflated t old from state frame rest m count next offset is name)) in
    subst (λ stepped. Does trees p bounds inflated t state.world (model.Invocation frame ∷ rest) stepped (Ok effect.Done) old new from c.go_on.new.stack)
    (sym (some_done trees p bounds inflated t old from state frame rest frames (pushing offset [] after frame.place.slots (drop count frame.place.slots.stack)) name (λ none. c.if-name-eq0.false (is_name ∙ none))))
    (free trees p bounds inflated t old from state frame rest (method.ThreadNames m) count next offset is after new shows
    (ap (λ (s : Shared). s.heap.locks.fat) new_is) refl refl c.go_on.new.stack [] c.go_on.ensures)
