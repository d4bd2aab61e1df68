-- The exception that a thread ended with is a Throwable: each event keeps that.
use Rattle.std.proofs.Common.{◌≡◌, ℕ, [], ◌∷◌, Bool, true, false, ◌==◌, Option, Some, None, refl, sym, ap, ◌∙◌, subst}
use Rattle.std.specs.Prelude.{slice_get}
use Rattle.std.proofs.lemmas.Bool.{true≢false, eqb-true}
use Rattle.std.proofs.lemmas.Option.{get_or_from_slice_get, same_Some}
use Rattle.model.specs.declared.event.Event.{Event}
use Rattle.model.specs.declared.value.Value.{Value}
use Rattle.model.specs.Names.{java_lang_thread, java_lang_throwable}
use Rattle.model.specs.Classes.{Program}
use Rattle.model.specs.Operands.{values}
use Rattle.model.specs.State.{types_of, ThreadStatus, Ended, Thread, StackOf, World, State}
use Rattle.model.specs.Worlds.{no_thread, thread_at, with_thread, has_ended}
use Rattle.model.specs.Step.{SteppedOf, NotEnabled, WrongKind, Next, PartOf, part, is_over, ended, with_waiters_woken, with_end, end_of, settled, thread_event, with_part, event_of, stepped}
use Rattle.model.specs.Typing.{AreTyped}
use Rattle.model.specs.WellTyped.{is_object_in, IsStackTyped, IsWellTyped}
use Rattle.run_laws.proofs.laws.Linked.{Linked}
use Rattle.run_laws.proofs.typed_runs.Invariant.{object_in_more}
use Rattle.run_laws.proofs.typed_runs.Changes.{Moved, Same, Wakes}
use Rattle.run_laws.proofs.typed_runs.Flows.{InstructionsTyped}
use Rattle.run_laws.proofs.typed_runs.Threads.{get_set_at}
use Rattle.run_laws.proofs.typed_runs.WaitChanges.{waiters_woken_keeps}
use Rattle.run_laws.proofs.typed_runs.StepParts.{At, PartTyped, OnPart, own_at}
use Rattle.run_laws.proofs.typed_runs.Settled.{settled_typed, thread_there}
use Rattle.run_laws.proofs.soundness.Sound.{fits_of, by_status}
use Rattle.run_laws.proofs.typed_threads.Threads.{pending_in}
use Rattle.run_laws.proofs.typed_threads.Alive.{IsAlive, Alive, thread_alive}

-- over values
abbrev pub EndsBy : Program → World → ℕ → Type 0
EndsBy files world u =
    (thread : Thread) (exception : ℕ) → slice_get world.threads u ≡ Some thread → thread.status ≡ Ended (Some exception) → is_object_in files (types_of world.heap) java_lang_throwable exception ≡ true

ended_inv : (a b : Option ℕ) → Ended a ≡ Ended b → a ≡ b
ended_inv a b e = cc

moved_end : (a : Option ℕ) (after : ThreadStatus) → Moved (Ended a) after → after ≡ Ended a
moved_end a after (Same e) = e
moved_end a after (Wakes o n k c was is) = absurd cc

moved_from : (before : ThreadStatus) (exception : ℕ) (after : ThreadStatus) → Moved before after → after ≡ Ended (Some exception)
    → before ≡ Ended (Some exception)
moved_from before exception after (Same e) q = sym e ∙ q
moved_from before exception after (Wakes o n k c was is) q = absurd cc

module _ (files : Program) (t : ℕ) (before : World) (first : Thread) (was : slice_get before.threads t ≡ Some first) where
  -- the thread itself
  own_end : (world : World) (b : Bool) → PartTyped files t before (part world []) → IsAlive t world → EndsBy files (with_end world t b) t
  own_end world false h alive thread exception there is =
      let status = ap (λ (th : Thread). th.status) (get_or_from_slice_get world.threads t thread no_thread there) ∙ is in
      absurd (true≢false (sym (ap has_ended status) ∙ alive))
  own_end world true h alive thread exception there is =
      let at : At files t before world h.thread = record { changes = h.changes; there = h.there; idle = h.idle refl } in
      let new = ended (thread_at world t) in
      let gone = with_thread world t new in
      let own = own_at files t before first was world h.thread new at refl (λ object. refl) in
      let x = waiters_woken_keeps files gone own.changes.fits (thread_at world t).object in
      let after = with_waiters_woken gone (thread_at world t).object in
      let s = x.threads.still t new (get_set_at world.threads t h.thread new h.there) in
      let same : s.thread ≡ thread = same_Some s.thread thread (sym s.there ∙ there) in
      let stays = moved_end (thread_at world t).pending s.thread.status s.kept.status in
      let pending = ended_inv (thread_at world t).pending (Some exception) (sym stays ∙ (ap (λ (th : Thread). th.status) same ∙ is)) in
      let is_at = get_or_from_slice_get world.threads t h.thread no_thread h.there in
      let alive_at = sym (ap (λ (th : Thread). has_ended th.status) is_at) ∙ alive in
      let pending_at = sym (ap (λ (th : Thread). th.pending) is_at) ∙ pending in
      object_in_more files (types_of world.heap) (types_of after.heap) x.extends java_lang_throwable exception
      (pending_in files (types_of world.heap) h.thread.pending [] h.thread.status h.stack_typed exception alive_at pending_at)

  own_settled : (world : World) (stack : StackOf Value) → PartTyped files t before (part world stack) → IsAlive t world
      → EndsBy files (end_of t world stack) t
  own_settled world [] h alive thread exception there is = own_end world (is_over (thread_at world t)) h alive thread exception there is
  own_settled world (entry ∷ stack) h alive thread exception there is =
      let status = ap (λ (th : Thread). th.status) (get_or_from_slice_get world.threads t thread no_thread there) ∙ is in
      absurd (true≢false (sym (ap has_ended status) ∙ alive))

  -- any thread
  module _ (kept : (u : ℕ) → EndsBy files before u) (p : PartOf Value) (x : PartTyped files t before p) (own : EndsBy files p.world t) where
    other_ends : (u : ℕ) → (u == t) ≡ false → (o : Option Thread) → slice_get before.threads u ≡ o → EndsBy files p.world u
    other_ends u n None e thread exception there is =
        let s = x.changes.go.started u thread e there in
        absurd (true≢false (sym (ap has_ended is) ∙ ap has_ended s.status))
    other_ends u n (Some old) e thread exception there is =
        let s = x.changes.go.still u old e in
        let same : s.thread ≡ thread = same_Some s.thread thread (sym s.there ∙ there) in
        let was = moved_from old.status exception s.thread.status (s.kept n).status (ap (λ (th : Thread). th.status) same ∙ is) in
        object_in_more files (types_of before.heap) (types_of p.world.heap) x.changes.extends java_lang_throwable exception (kept u old exception e was)

    each_ends : (u : ℕ) (b : Bool) → (u == t) ≡ b → EndsBy files p.world u
    each_ends u true q = subst (EndsBy files p.world) (sym (eqb-true u t q)) own
    each_ends u false q = other_ends u q (slice_get before.threads u) refl

abbrev pub Ending : Program → SteppedOf State → Type 0
Ending files NotEnabled = Unit {0}
Ending files WrongKind = Unit {0}
Ending files (Next cost next) = (u : ℕ) → EndsBy files next.world u

module _ (files : Program) (linked : Linked files) (accepted : AreTyped files) (instructions : InstructionsTyped files) (frames : ℕ)
    (state : State) (h : IsWellTyped files state) (kept : (u : ℕ) → EndsBy files state.world u) (event : Event) where
  part_ends : (first : Thread) → slice_get state.world.threads event.thread ≡ Some first → (x : SteppedOf (PartOf Value))
      → OnPart files event.thread state.world x → Alive event.thread x → OnPart files event.thread state.world (settled event.thread x)
      → Ending files (with_part state event.thread (settled event.thread x))
  part_ends first was NotEnabled x alive s = tt
  part_ends first was WrongKind x alive s = tt
  part_ends first was (Next cost p) x alive s =
      λ u. each_ends files event.thread state.world first was kept (part (end_of event.thread p.world p.stack) p.stack) s (own_settled files event.thread state.world first was p.world p.stack x alive) u (u == event.thread) refl

  event_ends : (o : Option (StackOf Value)) → slice_get state.stacks event.thread ≡ o
      → Ending files (event_of values files frames state event o)
  event_ends None e = tt
  event_ends (Some stack) e =
      let at = thread_there files (types_of state.world.heap) state.world.threads state.stacks event.thread stack h.threads e in
      let whole = get_or_from_slice_get state.world.threads event.thread at.0 no_thread at.1.0 in
      let is = ap (λ (th : Thread). th.status) whole in
      let status = (thread_at state.world event.thread).status in
      let x = thread_event values files frames event state.world stack status in
      let fits = fits_of files state h in
      let stack_typed = subst (IsStackTyped files (types_of state.world.heap) at.0.pending stack) (sym is) at.1.1.stack_typed in
      let typed = by_status files linked accepted instructions frames event state.world fits at.0 at.1.0 at.1.1.object stack status (sym is) stack_typed in
      let self = subst (λ r. is_object_in files (types_of state.world.heap) java_lang_thread r ≡ true) (sym (ap (λ (th : Thread). th.object) whole)) at.1.1.object in
      let alive = thread_alive files linked accepted instructions frames event state.world fits at.0 at.1.0 self stack status (sym is) stack_typed in
      part_ends at.0 at.1.0 x typed alive (settled_typed files event.thread state.world at.0 at.1.0 x typed)

  pub step_ends : Ending files (stepped values files frames state event)
  step_ends = event_ends (slice_get state.stacks event.thread) refl
