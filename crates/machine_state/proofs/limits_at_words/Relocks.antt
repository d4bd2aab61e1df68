-- A thread that has left a wait set may enter its monitor again: the object is there, and counts are right.
use Rattle.std.proofs.Common.{◌≡◌, ℕ, zero, suc, ◌<◌, List, [], ◌∷◌, length, Some, refl, sym, ap, ◌∙◌, subst, arith}
use Rattle.std.specs.Prelude.{slice_get}
use Rattle.std.proofs.lemmas.Bool.{ltb-true}
use Rattle.std.proofs.lemmas.Option.{get_or_from_slice_get}
use Rattle.model.specs.declared.value.Value.{Value}
use Rattle.model.specs.declared.value.Value.TheVariants as value
use Rattle.model.specs.Names.{java_lang_object}
use Rattle.model.specs.Classes.{Program}
use Rattle.model.specs.ReferenceTypes.{ReferenceType, ClassType}
use Rattle.model.specs.Types.{OfType}
use Rattle.model.specs.State.{ObjectOf, types_of, WakeCause, Relock, Thread, StackOf, StateOf}
use Rattle.model.specs.Worlds.{no_thread}
use Rattle.model.specs.WellTyped.{IsStackTyped, IsThreadTyped, AreThreadsTyped}
use Rattle.run_laws.proofs.object_counts.References.{are_objects}
use Rattle.run_laws.specs.monitor_counts.Counts.{is_inflated, IsStatusCounted}
use Rattle.machine_state.specs.limits_at_words.FatLocks.{AreRelocksAtWordsAllowed}
use Rattle.machine_state.proofs.limits_at_words.FatLocks.{relocks_allowed}

-- a thread that is there is typed with a stack
thread_typed : (files : Program) (os : List ReferenceType) (threads : List Thread) (stacks : List (StackOf Value)) (t : ℕ)
    (thread : Thread) → AreThreadsTyped files os threads stacks → slice_get threads t ≡ Some thread
    → (stack : StackOf Value) × IsThreadTyped files os thread stack
thread_typed files os [] stacks t thread h e = absurd cc
thread_typed files os (x ∷ xs) [] t thread h e = absurd h
thread_typed files os (x ∷ xs) (stack ∷ stacks) zero thread h e =
    let same : x ≡ thread = cc in
    (stack, subst (λ th. IsThreadTyped files os th stack) same h.0)
thread_typed files os (x ∷ xs) (stack ∷ stacks) (suc t) thread h e = thread_typed files os xs stacks t thread h.1 e

object_there : (files : Program) (heap : List (ObjectOf Value)) (thread : Thread) (stack : StackOf Value) (object count : ℕ)
    (cause : WakeCause) → IsThreadTyped files (types_of heap) thread stack → thread.status ≡ Relock object count cause
    → object < length heap
object_there files heap thread stack object count cause h is =
    let waits = subst (IsStackTyped files (types_of heap) thread.pending stack) is h.stack_typed in
    ltb-true object (length heap) (are_objects files heap (OfType (ClassType java_lang_object)) (value.Reference object) refl waits.1.0)

pub relocks_at_words : AreRelocksAtWordsAllowed
relocks_at_words files at h locks objects shown flags counted t thread object count cause e is small =
    let state = h.0 in
    let there = subst (λ (w : StateOf ℕ). slice_get w.world.threads t ≡ Some thread) h.1.are e in
    let typed = thread_typed files (types_of state.world.heap) state.world.threads state.stacks t thread h.1.typed.threads there in
    let inside = object_there files state.world.heap thread typed.0 object count cause typed.1 is in
    let monitored : object < length state.world.monitors = omega (arith, inside, h.1.typed.monitors) in
    let monitors = shown ∙ ap (λ (w : StateOf ℕ). w.world.monitors) h.1.are in
    let status = ap (λ (th : Thread). th.status) (get_or_from_slice_get at.world.threads t thread no_thread e) ∙ is in
    relocks_allowed locks objects object t count flags (subst (IsStatusCounted (is_inflated objects)) status (counted.statuses_are t))
    (subst (λ ms. object < length ms) (sym monitors) monitored) small
