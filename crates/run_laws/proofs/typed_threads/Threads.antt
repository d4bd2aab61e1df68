-- The threads of a well-typed state, by its words.
use Rattle.std.proofs.Common.{◌≡◌, ℕ, zero, suc, List, [], ◌∷◌, true, false, Option, Some, None, refl, sym, ◌∙◌, subst}
use Rattle.std.specs.Prelude.{slice_get}
use Rattle.std.proofs.lemmas.Bool.{true≢false}
use Rattle.std.proofs.lemmas.List.{length-map}
use Rattle.std.proofs.lemmas.Option.{same_Some}
use Rattle.model.specs.declared.value.Value.{Value}
use Rattle.model.specs.Names.{Name, name_eq, java_lang_object, java_lang_thread, java_lang_throwable}
use Rattle.model.specs.Classes.{Program}
use Rattle.model.specs.ReferenceTypes.{ReferenceType, ClassType}
use Rattle.model.specs.Operands.{word_of}
use Rattle.model.specs.State.{types_of, ThreadStatus, Running, Waiting, Relock, Ended, Thread, StackOf, StateOf}
use Rattle.model.specs.Worlds.{has_ended}
use Rattle.model.specs.WellTyped.{is_object_in, IsStackTyped, IsThreadTyped, AreThreadsTyped}
use Rattle.model.specs.Words.{map_object, map_stack, AreWellTypedWords}
use Rattle.run_laws.proofs.typed_runs.Settled.{lengths_same}
use Rattle.run_laws.specs.typed_threads.Objects.{IsInstance}
use Rattle.run_laws.specs.typed_threads.Threads.{waits_for, IsCounted, ArePendingThrowable, AreThreadObjects, AreWaitsForObjects, AreTablesCounted}
use Rattle.run_laws.proofs.typed_threads.Instances.{types_are, below_there, instance_of}

none_some : {A : Type 0} (x : A) → None ≡ Some x → ⊥
none_some x e = absurd cc

module _ (files : Program) (os : List ReferenceType) where
  -- a thread that is there is typed with a stack
  pub thread_typed : (threads : List Thread) (stacks : List (StackOf Value)) (t : ℕ) (thread : Thread)
      → AreThreadsTyped files os threads stacks → slice_get threads t ≡ Some thread
      → (stack : StackOf Value) × IsThreadTyped files os thread stack
  thread_typed [] stacks t thread h e = absurd cc
  thread_typed (x ∷ xs) [] t thread h e = absurd h
  thread_typed (x ∷ xs) (stack ∷ stacks) zero thread h e =
      let same : x ≡ thread = cc in
      (stack, subst (λ th. IsThreadTyped files os th stack) same h.0)
  thread_typed (x ∷ xs) (stack ∷ stacks) (suc t) thread h e = thread_typed xs stacks t thread h.1 e

  pub pending_in : (pending : Option ℕ) (stack : StackOf Value) (status : ThreadStatus) → IsStackTyped files os pending stack status
      → (exception : ℕ) → has_ended status ≡ false → pending ≡ Some exception → is_object_in files os java_lang_throwable exception ≡ true
  pending_in None stack Running h exception a e = absurd (none_some exception e)
  pending_in (Some found) stack Running h exception a e =
      subst (λ r. is_object_in files os java_lang_throwable r ≡ true) (same_Some found exception e) h.0
  pending_in pending stack (Waiting object count) h exception a e = absurd (none_some exception (sym h.0 ∙ e))
  pending_in pending stack (Relock object count cause) h exception a e = absurd (none_some exception (sym h.0 ∙ e))
  pending_in pending stack (Ended thrown) h exception a e = absurd (true≢false a)

  waits_in : (pending : Option ℕ) (stack : StackOf Value) (status : ThreadStatus) → IsStackTyped files os pending stack status
      → (object : ℕ) → waits_for status ≡ Some object → (pending ≡ None) × (is_object_in files os java_lang_object object ≡ true)
  waits_in pending stack Running h object e = absurd (none_some object e)
  waits_in pending stack (Waiting found count) h object e =
      (h.0, subst (λ r. is_object_in files os java_lang_object r ≡ true) (same_Some found object e) h.1.0)
  waits_in pending stack (Relock found count cause) h object e =
      (h.0, subst (λ r. is_object_in files os java_lang_object r ≡ true) (same_Some found object e) h.1.0)
  waits_in pending stack (Ended thrown) h object e = absurd (none_some object e)

module _ (files : Program) (at : StateOf ℕ) (h : AreWellTypedWords files at) where
  typed_at : (t : ℕ) (thread : Thread) → slice_get at.world.threads t ≡ Some thread
      → (stack : StackOf Value) × IsThreadTyped files (types_of h.0.world.heap) thread stack
  typed_at t thread e =
      thread_typed files (types_of h.0.world.heap) h.0.world.threads h.0.stacks t thread h.1.typed.threads
      (subst (λ (w : StateOf ℕ). slice_get w.world.threads t ≡ Some thread) h.1.are e)

  object_at_words : (class : Name) (r : ℕ) → is_object_in files (types_of h.0.world.heap) class r ≡ true
      → is_object_in files (types_of at.world.heap) class r ≡ true
  object_at_words class r e = subst (λ os. is_object_in files os class r ≡ true) (sym (types_are files at h)) e

  instance_at_words : (class : Name) → name_eq class java_lang_object ≡ false → (r : ℕ)
      → is_object_in files (types_of h.0.world.heap) class r ≡ true → IsInstance files at.world.heap class r
  instance_at_words class other r e =
      instance_of at.world.heap files class other r (slice_get (types_of at.world.heap) r) refl (object_at_words class r e)

pub pending_throwable : ArePendingThrowable
pending_throwable files at h t thread exception e alive is =
    let typed = typed_at files at h t thread e in
    instance_at_words files at h java_lang_throwable refl exception (pending_in files (types_of h.0.world.heap) thread.pending typed.0 thread.status typed.1.stack_typed exception alive is)

pub thread_objects : AreThreadObjects
thread_objects files at h t thread e = instance_at_words files at h java_lang_thread refl thread.object (typed_at files at h t thread e).1.object

pub waits_for_objects : AreWaitsForObjects
waits_for_objects files at h t thread object e is =
    let typed = typed_at files at h t thread e in
    let waits = waits_in files (types_of h.0.world.heap) thread.pending typed.0 thread.status typed.1.stack_typed object is in
    record {
      pending = waits.0;
      there = below_there at.world.heap files (ClassType java_lang_object) object (slice_get (types_of at.world.heap) object) refl (object_at_words files at h java_lang_object object waits.1);
    }

pub tables_counted : AreTablesCounted
tables_counted files at h =
    let state = h.0 in
    subst IsCounted (sym h.1.are)
    (record {
      monitors = h.1.typed.monitors ∙ sym (length-map state.world.heap (map_object word_of));
      stacks = length-map state.stacks (map_stack word_of) ∙ sym (lengths_same files (types_of state.world.heap) state.world.threads state.stacks h.1.typed.threads);
    })
