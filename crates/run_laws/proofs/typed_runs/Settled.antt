-- The end of a thread, which belongs to the event that empties its stack; and the state after an event.
use Rattle.std.proofs.Common.{◌≡◌, ℕ, zero, suc, ◌-◌, List, [], ◌∷◌, ◌++◌, length, Bool, true, false, ◌==◌, Some, None, refl, sym, ap, ◌∙◌, subst, arith}
use Rattle.std.specs.Prelude.{slice_get, slice_set, replicate}
use Rattle.std.proofs.lemmas.Bool.{false≢true, eqb-true, eq-eqb}
use Rattle.std.proofs.lemmas.List.{length-set}
use Rattle.std.proofs.lemmas.Option.{same_Some}
use Rattle.model.specs.declared.value.Value.{Value}
use Rattle.model.specs.Names.{java_lang_thread}
use Rattle.model.specs.Classes.{Program}
use Rattle.model.specs.ReferenceTypes.{ReferenceType}
use Rattle.model.specs.State.{types_of, ThreadStatus, Running, Thread, StackOf, World, State}
use Rattle.model.specs.Worlds.{thread_at, with_thread}
use Rattle.model.specs.Step.{SteppedOf, NotEnabled, WrongKind, Next, PartOf, part, is_over, ended, with_waiters_woken, with_end, end_of, settled}
use Rattle.model.specs.WellTyped.{is_object_in, IsStackTyped, IsThreadTyped, AreThreadsTyped, IsWellTyped}
use Rattle.run_laws.proofs.typed_runs.Invariant.{object_in_more, thread_more}
use Rattle.run_laws.proofs.typed_runs.Changes.{Moved, Same, Wakes, Kept}
use Rattle.run_laws.proofs.typed_runs.Threads.{get_set_at, get_set_other}
use Rattle.run_laws.proofs.typed_runs.WaitChanges.{waiters_woken_keeps}
use Rattle.run_laws.proofs.typed_runs.StepParts.{At, PartTyped, OnPart, at_keeps, own_at}

module _ (files : Program) (t : ℕ) (before : World) (first : Thread) (was : slice_get before.threads t ≡ Some first) where
  ended_typed : (world : World) (b : Bool) → PartTyped files t before (part world []) → PartTyped files t before (part (with_end world t b) [])
  ended_typed world false h = h
  ended_typed world true h =
      let at : At files t before world h.thread = record { changes = h.changes; there = h.there; idle = h.idle refl } in
      let new = ended (thread_at world t) in
      let gone = with_thread world t new in
      let own = own_at files t before first was world h.thread new at refl (λ object. refl) in
      let x = waiters_woken_keeps files gone own.changes.fits (thread_at world t).object in
      let after = with_waiters_woken gone (thread_at world t).object in
      let k = at_keeps files t before first was gone after new own x in
      record {
        changes = k.at.changes;
        thread = k.thread;
        there = k.at.there;
        idle = λ e. k.at.idle;
        stack_typed = subst (λ s. IsStackTyped files (types_of after.heap) k.thread.pending [] s) (sym k.status) tt;
      }

  end_typed : (world : World) (stack : StackOf Value) → PartTyped files t before (part world stack) → PartTyped files t before (part (end_of t world stack) stack)
  end_typed world [] h = ended_typed world (is_over (thread_at world t)) h
  end_typed world (entry ∷ stack) h = h

  pub settled_typed : (x : SteppedOf (PartOf Value)) → OnPart files t before x → OnPart files t before (settled t x)
  settled_typed NotEnabled h = tt
  settled_typed WrongKind h = tt
  settled_typed (Next cost p) h = end_typed p.world p.stack h

-- ---- threads with their stacks

pub lengths_same : (files : Program) (os : List ReferenceType) (threads : List Thread) (stacks : List (StackOf Value)) → AreThreadsTyped files os threads stacks → length threads ≡ length stacks
lengths_same files os [] [] h = refl
lengths_same files os [] (stack ∷ stacks) h = absurd h
lengths_same files os (thread ∷ threads) [] h = absurd h
lengths_same files os (thread ∷ threads) (stack ∷ stacks) h = ap suc (lengths_same files os threads stacks h.1)

typed_at : (files : Program) (os : List ReferenceType) (threads : List Thread) (stacks : List (StackOf Value)) (u : ℕ) (thread : Thread) (stack : StackOf Value) → AreThreadsTyped files os threads stacks → slice_get threads u ≡ Some thread → slice_get stacks u ≡ Some stack → IsThreadTyped files os thread stack
typed_at files os [] stacks u thread stack h e g = absurd cc
typed_at files os (x ∷ threads) [] u thread stack h e g = absurd h
typed_at files os (x ∷ threads) (s ∷ stacks) zero thread stack h e g =
    let same : x ≡ thread = cc in
    let is : s ≡ stack = cc in
    subst (λ y. IsThreadTyped files os thread y) is (subst (λ y. IsThreadTyped files os y s) same h.0)
typed_at files os (x ∷ threads) (s ∷ stacks) (suc u) thread stack h e g = typed_at files os threads stacks u thread stack h.1 e g

-- the thread of a stack
pub thread_there : (files : Program) (os : List ReferenceType) (threads : List Thread) (stacks : List (StackOf Value)) (u : ℕ) (stack : StackOf Value) → AreThreadsTyped files os threads stacks → slice_get stacks u ≡ Some stack → (thread : Thread) × ((slice_get threads u ≡ Some thread) × IsThreadTyped files os thread stack)
thread_there files os threads [] u stack h g = absurd cc
thread_there files os [] (s ∷ stacks) u stack h g = absurd h
thread_there files os (x ∷ threads) (s ∷ stacks) zero stack h g =
    let is : s ≡ stack = cc in (x, (refl, subst (λ y. IsThreadTyped files os x y) is h.0))
thread_there files os (x ∷ threads) (s ∷ stacks) (suc u) stack h g = thread_there files os threads stacks u stack h.1 g

module _ (files : Program) (ps : List ReferenceType) where
  -- one that only woke
  moved_typed : (a b : Thread) (stack : StackOf Value) → IsThreadTyped files ps a stack → b.object ≡ a.object → Kept a b → IsThreadTyped files ps b stack
  moved_typed a b stack h o k =
      record {
        object = subst (λ r. is_object_in files ps java_lang_thread r ≡ true) (sym o) h.object;
        stack_typed = subst (λ p. IsStackTyped files ps p stack b.status) (sym k.pending) (by a.status b.status k.status h.stack_typed);
      }
    where
      by : (s z : ThreadStatus) → Moved s z → IsStackTyped files ps a.pending stack s → IsStackTyped files ps a.pending stack z
      by s z (Same e) g = subst (IsStackTyped files ps a.pending stack) (sym e) g
      by s z (Wakes object count again cause w is) g =
          let waits = subst (IsStackTyped files ps a.pending stack) w g in
          subst (IsStackTyped files ps a.pending stack) (sym is) waits

  all_new : (ys : List Thread) → ((u : ℕ) (thread : Thread) → slice_get ys u ≡ Some thread → IsThreadTyped files ps thread []) → AreThreadsTyped files ps ys (replicate (length ys) [])
  all_new [] new = tt
  all_new (y ∷ ys) new = (new zero y refl, all_new ys (λ u thread e. new (suc u) thread e))

  placed : (xs ys : List Thread) (ss : List (StackOf Value)) → length xs ≡ length ss → ((u : ℕ) (thread : Thread) (stack : StackOf Value) → slice_get xs u ≡ Some thread → slice_get ss u ≡ Some stack → (after : Thread) × ((slice_get ys u ≡ Some after) × IsThreadTyped files ps after stack)) → ((u : ℕ) (thread : Thread) → slice_get xs u ≡ None → slice_get ys u ≡ Some thread → IsThreadTyped files ps thread []) → AreThreadsTyped files ps ys (ss ++ replicate (length ys - length ss) [])
  placed [] ys [] e old new =
      let n : length ys ≡ length ys - 0 = omega arith in
      subst (λ k. AreThreadsTyped files ps ys (replicate k [])) n (all_new ys (λ u thread g. new u thread refl g))
  placed [] ys (s ∷ ss) e old new = absurd cc
  placed (x ∷ xs) ys [] e old new = absurd cc
  placed (x ∷ xs) [] (s ∷ ss) e old new = let h = old zero x s refl refl in let no : slice_get [] zero ≡ Some h.0 = h.1.0 in absurd cc
  placed (x ∷ xs) (y ∷ ys) (s ∷ ss) e old new =
      let h = old zero x s refl refl in
      let is : y ≡ h.0 = same_Some y h.0 h.1.0 in
      let m : length ys - length ss ≡ suc (length ys) - suc (length ss) = omega arith in
      let q : length xs ≡ length ss = cc in
      subst (λ k. AreThreadsTyped files ps (y ∷ ys) ((s ∷ ss) ++ replicate k [])) m
      (subst (λ z. IsThreadTyped files ps z s) (sym is) h.1.1, placed xs ys ss q (λ u thread stack a b. old (suc u) thread stack a b) (λ u thread a b. new (suc u) thread a b))

module _ (files : Program) (state : State) (h : IsWellTyped files state) (t : ℕ) (first : StackOf Value) (first_there : slice_get state.stacks t ≡ Some first) (p : PartOf Value) (x : PartTyped files t state.world p) where
  abbrev os : List ReferenceType
  os = types_of state.world.heap

  abbrev ps : List ReferenceType
  ps = types_of p.world.heap

  abbrev After : ℕ → StackOf Value → Type 0
  After u stack = (after : Thread) × ((slice_get p.world.threads u ≡ Some after) × IsThreadTyped files ps after stack)

  -- the thread that moved has its new stack
  own_after : (thread : Thread) (stack : StackOf Value) → slice_get state.world.threads t ≡ Some thread → p.stack ≡ stack → After t stack
  own_after thread stack e g =
      let s = x.changes.go.still t thread e in
      let is : s.thread ≡ x.thread = same_Some s.thread x.thread (sym s.there ∙ x.there) in
      let typed = typed_at files os state.world.threads state.stacks t thread first h.threads e first_there in
      let object = object_in_more files os ps x.changes.extends java_lang_thread thread.object typed.object in
      let same = sym (ap (λ (th : Thread). th.object) is) ∙ s.object in (
        x.thread,
        (
          x.there,
          record {
            object = subst (λ r. is_object_in files ps java_lang_thread r ≡ true) (sym same) object;
            stack_typed = subst (λ k. IsStackTyped files ps x.thread.pending k x.thread.status) g x.stack_typed;
          },
        ),
      )

  -- the others keep theirs
  other_after : (u : ℕ) (thread : Thread) (stack : StackOf Value) → (u == t) ≡ false → slice_get state.world.threads u ≡ Some thread → slice_get state.stacks u ≡ Some stack → After u stack
  other_after u thread stack n e g =
      let s = x.changes.go.still u thread e in
      let typed = thread_more files os ps x.changes.extends thread stack (typed_at files os state.world.threads state.stacks u thread stack h.threads e g) in
      (s.thread, (s.there, moved_typed files ps thread s.thread stack typed s.object (s.kept n)))

  each_after : (u : ℕ) (thread : Thread) (stack : StackOf Value) → slice_get state.world.threads u ≡ Some thread → slice_get (slice_set state.stacks t p.stack) u ≡ Some stack → (b : Bool) → (u == t) ≡ b → After u stack
  each_after u thread stack e g true q =
      let same : u ≡ t = eqb-true u t q in
      let here = subst (λ k. slice_get (slice_set state.stacks t p.stack) k ≡ Some stack) same g in
      let is = same_Some p.stack stack (sym (get_set_at state.stacks t first p.stack first_there) ∙ here) in
      subst (λ k. After k stack) (sym same) (own_after thread stack (subst (λ k. slice_get state.world.threads k ≡ Some thread) same e) is)
  each_after u thread stack e g false q =
      other_after u thread stack q e (sym (get_set_other state.stacks t u p.stack (λ s. false≢true (sym q ∙ eq-eqb u t (sym s)))) ∙ g)

  -- one that was started has an empty stack
  new_after : (u : ℕ) (thread : Thread) → slice_get state.world.threads u ≡ None → slice_get p.world.threads u ≡ Some thread → IsThreadTyped files ps thread []
  new_after u thread n g =
      let s = x.changes.go.started u thread n g in
      record {
        object = s.object;
        stack_typed = subst (λ (z : ThreadStatus). IsStackTyped files ps thread.pending [] z) (sym s.status) (subst (λ z. IsStackTyped files ps z [] Running) (sym s.pending) tt);
      }

  -- the state after the event
  pub put_typed : IsWellTyped files (record { world = p.world; stacks = slice_set state.stacks t p.stack ++ replicate (length p.world.threads - length state.stacks) [] })
  put_typed =
      let ss = slice_set state.stacks t p.stack in
      let n = length-set state.stacks t p.stack in
      record {
        heap = x.changes.fits.heap;
        statics = x.changes.fits.statics;
        monitors = x.changes.fits.monitors;
        wait_sets = x.changes.fits.wait_sets;
        opened = x.changes.fits.opened;
        threads = subst (λ k. AreThreadsTyped files ps p.world.threads (ss ++ replicate (length p.world.threads - k) [])) n
            (placed files ps state.world.threads p.world.threads ss (lengths_same files os state.world.threads state.stacks h.threads ∙ sym n) (λ u thread stack e g. each_after u thread stack e g (u == t) refl) new_after);
      }
