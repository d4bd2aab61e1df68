-- The same over words.
use Rattle.std.proofs.Common.{◌≡◌, ℕ, zero, suc, [], ◌∷◌, true, Some, refl, sym, subst}
use Rattle.std.specs.Prelude.{slice_get}
use Rattle.model.specs.Names.{java_lang_throwable}
use Rattle.model.specs.State.{types_of, Ended, Thread, StateOf, new_thread}
use Rattle.model.specs.Opening.{main_thread_reference}
use Rattle.model.specs.WellTyped.{is_object_in}
use Rattle.model.specs.Words.{words_of}
use Rattle.run_laws.proofs.word_runs.WordWorlds.{types_words}
use Rattle.run_laws.proofs.soundness.Sound.{links, instructs}
use Rattle.run_laws.specs.typed_threads.Ends.{AreEndsThrowable, AreOpeningEnds, AreEndsKept}
use Rattle.run_laws.proofs.typed_threads.Instances.{types_are, instance_of, instance_typed}
use Rattle.run_laws.proofs.typed_threads.Steps.{stepped_at_values}
use Rattle.run_laws.proofs.typed_threads.Ends.{EndsBy, Ending, step_ends}

-- in the opening state no thread has ended
none_ended : (t : ℕ) (thread : Thread) (exception : ℕ) → slice_get (new_thread main_thread_reference ∷ []) t ≡ Some thread
    → thread.status ≡ Ended (Some exception) → ⊥
none_ended zero thread exception e is = absurd cc
none_ended (suc t) thread exception e is = absurd cc

pub opening_ends : AreOpeningEnds
opening_ends files t thread exception e is = absurd (none_ended t thread exception e is)

pub ends_kept : AreEndsKept
ends_kept files trees accepted frames before event cost next h kept e =
    let linked = links files trees accepted in
    let f = stepped_at_values trees linked frames before event cost next h e in
    let at : (u : ℕ) → EndsBy trees h.0.world u =
    λ u thread exception there ended. subst (λ os. is_object_in trees os java_lang_throwable exception ≡ true) (types_are trees before h)
    (instance_typed before.world.heap trees java_lang_throwable exception (kept u thread exception (subst (λ (w : StateOf ℕ). slice_get w.world.threads u ≡ Some thread) (sym h.1.are) there) ended)) in
    let x = subst (Ending trees) f.is (step_ends trees linked accepted.typed (instructs files trees accepted) frames h.0 h.1.typed at event) in
    let heap = (words_of f.after).world.heap in
    subst (λ (w : StateOf ℕ). AreEndsThrowable trees w.world) f.are
    (λ t thread exception there ended. instance_of heap trees java_lang_throwable refl exception (slice_get (types_of heap) exception) refl
    (subst (λ os. is_object_in trees os java_lang_throwable exception ≡ true) (sym (types_words f.after.world.heap)) (x t thread exception there ended)))
