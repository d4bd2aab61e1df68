-- Wait sets (JLS 17.2): members that leave and join, and threads that are woken.
use Rattle.std.proofs.Common.{◌≡◌, ℕ, zero, suc, ◌+◌, List, [], ◌∷◌, ◌++◌, Bool, true, false, ◌==◌, Option, Some, None, refl, sym, ap, ◌∙◌, subst, arith}
use Rattle.std.specs.Prelude.{slice_get, slice_set, slice_index_or}
use Rattle.std.specs.Option.{option_map_or}
use Rattle.std.specs.List.{list_all, list_any, remove}
use Rattle.std.proofs.lemmas.Bool.{false≢true, and_parts, and_from, or_parts, or_from, cond_both, eqb-true, eq-eqb, not_from_false, false_from_ne_true, not-true}
use Rattle.model.specs.State.{Monitor, Waiter, ThreadStatus, Running, Waiting, Relock, Ended, Thread}
use Rattle.model.specs.Monitors.{unlocked, without}
use Rattle.model.specs.WellTyped.{is_waiting_for, is_waiter, are_distinct, are_wait_sets}
use Rattle.run_laws.proofs.typed_runs.Threads.{waits, get_set_other}

abbrev pub is_of : ℕ → Waiter → Bool
is_of thread waiter = waiter.thread == thread

-- ---- tests

eq_sym_false : (a b : ℕ) → (a == b) ≡ false → (b == a) ≡ false
eq_sym_false a b h = false_from_ne_true (b == a) (λ q. false≢true (sym h ∙ eq-eqb a b (sym (eqb-true b a q))))

none_at : {A : Type 0} (p : A → Bool) (xs : List A) (k : ℕ) (x : A) → list_any p xs ≡ false → slice_get xs k ≡ Some x → p x ≡ false
none_at p [] k x h e = absurd cc
none_at p (y ∷ ys) zero x h e = let q : y ≡ x = cc in subst (λ z. p z ≡ false) q (or_parts _ _ h).0
none_at p (y ∷ ys) (suc k) x h e = none_at p ys k x (or_parts _ _ h).1 e

none_remove : {A : Type 0} (p : A → Bool) (xs : List A) (k : ℕ) → list_any p xs ≡ false → list_any p (remove xs k) ≡ false
none_remove p [] zero h = refl
none_remove p [] (suc k) h = refl
none_remove p (x ∷ xs) zero h = (or_parts _ _ h).1
none_remove p (x ∷ xs) (suc k) h = let q = or_parts _ _ h in or_from _ _ q.0 (none_remove p xs k q.1)

none_append : {A : Type 0} (p : A → Bool) (xs : List A) (x : A) → list_any p xs ≡ false → p x ≡ false → list_any p (xs ++ x ∷ []) ≡ false
none_append p [] x h q = or_from _ _ q refl
none_append p (y ∷ ys) x h q = let g = or_parts _ _ h in or_from _ _ g.0 (none_append p ys x g.1 q)

pub all_remove : {A : Type 0} (p : A → Bool) (xs : List A) (k : ℕ) → list_all p xs ≡ true → list_all p (remove xs k) ≡ true
all_remove p [] zero h = refl
all_remove p [] (suc k) h = refl
all_remove p (x ∷ xs) zero h = (and_parts _ _ h).1
all_remove p (x ∷ xs) (suc k) h = let q = and_parts _ _ h in and_from _ _ q.0 (all_remove p xs k q.1)

-- of those that pass one test and not another
all_weaken_none : {A : Type 0} (p t q : A → Bool) (xs : List A) → ((x : A) → p x ≡ true → t x ≡ false → q x ≡ true) → list_all p xs ≡ true
    → list_any t xs ≡ false → list_all q xs ≡ true
all_weaken_none p t q [] w h n = refl
all_weaken_none p t q (x ∷ xs) w h n =
    let g = and_parts _ _ h in
    let m = or_parts _ _ n in
    and_from _ _ (w x g.0 m.0) (all_weaken_none p t q xs w g.1 m.1)

-- ---- members that leave

pub distinct_remove : (ws : List Waiter) (k : ℕ) → are_distinct ws ≡ true → are_distinct (remove ws k) ≡ true
distinct_remove [] zero h = refl
distinct_remove [] (suc k) h = refl
distinct_remove (w ∷ ws) zero h = (and_parts _ _ h).1
distinct_remove (w ∷ ws) (suc k) h =
    let q = and_parts _ _ h in
    and_from _ _ (not_from_false _ (none_remove (is_of w.thread) ws k (not-true _ q.0))) (distinct_remove ws k q.1)

pub removed_out : (ws : List Waiter) (k : ℕ) (w : Waiter) → slice_get ws k ≡ Some w → are_distinct ws ≡ true
    → list_any (is_of w.thread) (remove ws k) ≡ false
removed_out [] k w e h = absurd cc
removed_out (x ∷ ws) zero w e h =
    let same : x ≡ w = cc in
    subst (λ (v : Waiter). list_any (is_of v.thread) ws ≡ false) same (not-true _ (and_parts _ _ h).0)
removed_out (x ∷ ws) (suc k) w e h =
    let q = and_parts _ _ h in
    or_from _ _ (eq_sym_false w.thread x.thread (none_at (is_of x.thread) ws k w (not-true _ q.0) e)) (removed_out ws k w e q.1)

none_without : (p : Waiter → Bool) (u : ℕ) (ws : List Waiter) → list_any p ws ≡ false → list_any p (without u ws) ≡ false
none_without p u [] h = refl
none_without p u (w ∷ ws) h =
    let q = or_parts _ _ h in
    cond_both (w.thread == u) _ _ (λ vs. list_any p vs ≡ false) (λ e. q.1) (λ e. or_from _ _ q.0 (none_without p u ws q.1))

pub all_without : (p : Waiter → Bool) (u : ℕ) (ws : List Waiter) → list_all p ws ≡ true → list_all p (without u ws) ≡ true
all_without p u [] h = refl
all_without p u (w ∷ ws) h =
    let q = and_parts _ _ h in
    cond_both (w.thread == u) _ _ (λ vs. list_all p vs ≡ true) (λ e. q.1) (λ e. and_from _ _ q.0 (all_without p u ws q.1))

pub distinct_without : (u : ℕ) (ws : List Waiter) → are_distinct ws ≡ true → are_distinct (without u ws) ≡ true
distinct_without u [] h = refl
distinct_without u (w ∷ ws) h =
    let q = and_parts _ _ h in
    cond_both (w.thread == u) _ _ (λ vs. are_distinct vs ≡ true) (λ e. q.1)
    (λ e. and_from _ _ (not_from_false _ (none_without (is_of w.thread) u ws (not-true _ q.0))) (distinct_without u ws q.1))

pub without_out : (u : ℕ) (ws : List Waiter) → are_distinct ws ≡ true → list_any (is_of u) (without u ws) ≡ false
without_out u [] h = refl
without_out u (w ∷ ws) h =
    let q = and_parts _ _ h in
    cond_both (w.thread == u) _ _ (λ vs. list_any (is_of u) vs ≡ false)
    (λ e. subst (λ v. list_any (is_of v) ws ≡ false) (eqb-true w.thread u e) (not-true _ q.0))
    (λ e. or_from _ _ e (without_out u ws q.1))

-- ---- members that join

pub distinct_new : (ws : List Waiter) (w : Waiter) → are_distinct ws ≡ true → list_any (is_of w.thread) ws ≡ false
    → are_distinct (ws ++ w ∷ []) ≡ true
distinct_new [] w h n = refl
distinct_new (x ∷ ws) w h n =
    let q = and_parts _ _ h in
    let m = or_parts _ _ n in
    and_from _ _ (not_from_false _ (none_append (is_of x.thread) ws w (not-true _ q.0) (eq_sym_false x.thread w.thread m.0))) (distinct_new ws w q.1 m.1)

pub none_waits : (threads : List Thread) (r u : ℕ) (ws : List Waiter) → waits threads r u ≡ false
    → list_all (is_waiter threads r) ws ≡ true → list_any (is_of u) ws ≡ false
none_waits threads r u [] n h = refl
none_waits threads r u (w ∷ ws) n h =
    let q = and_parts _ _ h in
    or_from _ _ (false_from_ne_true (w.thread == u) (λ e. false≢true (sym n ∙ subst (λ v. waits threads r v ≡ true) (eqb-true w.thread u e) q.0))) (none_waits threads r u ws n q.1)

-- ---- the monitor of an object

-- its wait set has threads that wait for the object, each once
pub record Members (threads : List Thread) (object : ℕ) (ws : List Waiter) : Type 0 where
  pub wait : list_all (is_waiter threads object) ws ≡ true
  pub distinct : are_distinct ws ≡ true

sets_from : (threads : List Thread) (k : ℕ) (ms : List Monitor) (i n : ℕ) → n ≡ k + i → are_wait_sets threads k ms ≡ true
    → Members threads n (slice_index_or ms i unlocked).waiters
sets_from threads k [] i n e h = record { wait = refl; distinct = refl }
sets_from threads k (m ∷ ms) zero n e h =
    let same : k ≡ n = omega arith in
    let q = and_parts _ _ (and_parts _ _ h).0 in
    subst (λ j. Members threads j m.waiters) same (record { wait = q.0; distinct = q.1 })
sets_from threads k (m ∷ ms) (suc i) n e h =
    let next : n ≡ suc k + i = omega arith in sets_from threads (suc k) ms i n next (and_parts _ _ h).1

pub members_at : (threads : List Thread) (ms : List Monitor) (r : ℕ) → are_wait_sets threads 0 ms ≡ true
    → Members threads r (slice_index_or ms r unlocked).waiters
members_at threads ms r h = let e : r ≡ 0 + r = omega arith in sets_from threads 0 ms r r e h

put_from : (threads : List Thread) (k : ℕ) (ms : List Monitor) (i n : ℕ) (m : Monitor) → n ≡ k + i → Members threads n m.waiters
    → are_wait_sets threads k ms ≡ true → are_wait_sets threads k (slice_set ms i m) ≡ true
put_from threads k [] i n m e w h = refl
put_from threads k (x ∷ ms) zero n m e w h =
    let same : n ≡ k = omega arith in
    let at = subst (λ j. Members threads j m.waiters) same w in
    and_from _ _ (and_from _ _ at.wait at.distinct) (and_parts _ _ h).1
put_from threads k (x ∷ ms) (suc i) n m e w h =
    let next : n ≡ suc k + i = omega arith in
    and_from _ _ (and_parts _ _ h).0 (put_from threads (suc k) ms i n m next w (and_parts _ _ h).1)

pub wait_sets_put : (threads : List Thread) (ms : List Monitor) (r : ℕ) (m : Monitor) → Members threads r m.waiters
    → are_wait_sets threads 0 ms ≡ true → are_wait_sets threads 0 (slice_set ms r m) ≡ true
wait_sets_put threads ms r m w h = let e : r ≡ 0 + r = omega arith in put_from threads 0 ms r r m e w h

-- ---- a thread that leaves its wait set

-- what it waits for is one object
waiting_one : (s : ThreadStatus) (p q : ℕ) → is_waiting_for p s ≡ true → is_waiting_for q s ≡ true → p ≡ q
waiting_one Running p q h g = absurd (false≢true h)
waiting_one (Waiting object count) p q h g = sym (eqb-true object p h) ∙ eqb-true object q g
waiting_one (Relock object count cause) p q h g = absurd (false≢true h)
waiting_one (Ended exception) p q h g = absurd (false≢true h)

waits_one : (threads : List Thread) (u p q : ℕ) → waits threads p u ≡ true → waits threads q u ≡ true → p ≡ q
waits_one threads u p q h g = by (slice_get threads u) h g
  where
    by : (o : Option Thread) → option_map_or (λ (thread : Thread). is_waiting_for p thread.status) o false ≡ true
        → option_map_or (λ (thread : Thread). is_waiting_for q thread.status) o false ≡ true → p ≡ q
    by None h g = absurd (false≢true h)
    by (Some thread) h g = waiting_one thread.status p q h g

pub record WaitsThere (threads : List Thread) (r u : ℕ) : Type 0 where
  pub thread : Thread
  pub there : slice_get threads u ≡ Some thread
  pub count : ℕ
  pub status : thread.status ≡ Waiting r count

pub waits_there : (threads : List Thread) (r u : ℕ) → waits threads r u ≡ true → WaitsThere threads r u
waits_there threads r u h = by (slice_get threads u) refl h
  where
    of : (thread : Thread) (s : ThreadStatus) → slice_get threads u ≡ Some thread → thread.status ≡ s → is_waiting_for r s ≡ true
        → WaitsThere threads r u
    of thread Running e q h = absurd (false≢true h)
    of thread (Waiting object count) e q h =
        record { thread = thread; there = e; count = count; status = q ∙ ap (λ o. Waiting o count) (eqb-true object r h) }
    of thread (Relock object count cause) e q h = absurd (false≢true h)
    of thread (Ended exception) e q h = absurd (false≢true h)

    by : (o : Option Thread) → slice_get threads u ≡ o → option_map_or (λ (thread : Thread). is_waiting_for r thread.status) o false ≡ true
        → WaitsThere threads r u
    by None e h = absurd (false≢true h)
    by (Some thread) e h = of thread thread.status e refl h

-- the others wait still
pub waits_other : (threads : List Thread) (k : ℕ) (new : Thread) (r u : ℕ) → (u == k) ≡ false → waits threads r u ≡ true
    → waits (slice_set threads k new) r u ≡ true
waits_other threads k new r u n h =
    subst (λ o. option_map_or (λ (thread : Thread). is_waiting_for r thread.status) o false ≡ true) (sym (get_set_other threads k u new (λ e. false≢true (sym n ∙ eq-eqb u k (sym e))))) h

pub all_wait_other : (threads : List Thread) (k : ℕ) (new : Thread) (r : ℕ) (ws : List Waiter) → list_any (is_of k) ws ≡ false
    → list_all (is_waiter threads r) ws ≡ true → list_all (is_waiter (slice_set threads k new) r) ws ≡ true
all_wait_other threads k new r ws n h =
    all_weaken_none (is_waiter threads r) (is_of k) (is_waiter (slice_set threads k new) r) ws (λ w q m. waits_other threads k new r w.thread m q) h n

module _ (threads : List Thread) (r u : ℕ) (new : Thread) (h : waits threads r u ≡ true) where
  -- it is in no other wait set, as it waits for this one
  elsewhere : (object : ℕ) (ws : List Waiter) → (object ≡ r → ⊥) → list_all (is_waiter threads object) ws ≡ true
      → list_any (is_of u) ws ≡ false
  elsewhere object ws n all =
      none_waits threads object u ws (false_from_ne_true (waits threads object u) (λ q. n (waits_one threads u object r q h))) all

  left_from : (k : ℕ) (ms : List Monitor)
      → ((i n : ℕ) → n ≡ k + i → n ≡ r → list_any (is_of u) (slice_index_or ms i unlocked).waiters ≡ false)
      → are_wait_sets threads k ms ≡ true → are_wait_sets (slice_set threads u new) k ms ≡ true
  left_from k [] out sets = refl
  left_from k (m ∷ ms) out sets =
      let q = and_parts _ _ sets in
      let here = and_parts _ _ q.0 in
      and_from _ _ (and_from _ _ (all_wait_other threads u new k m.waiters (gone (k == r) refl here.0) here.0) here.1)
      (left_from (suc k) ms (λ i n e same. let next : n ≡ k + suc i = omega arith in out (suc i) n next same) q.1)
    where
      gone : (b : Bool) → (k == r) ≡ b → list_all (is_waiter threads k) m.waiters ≡ true → list_any (is_of u) m.waiters ≡ false
      gone true e all = let self : k ≡ k + 0 = omega arith in out 0 k self (eqb-true k r e)
      gone false e all = elsewhere k m.waiters (λ same. false≢true (sym e ∙ eq-eqb k r same)) all

  -- where its monitor does not have it any more
  pub wait_sets_left : (ms : List Monitor) → list_any (is_of u) (slice_index_or ms r unlocked).waiters ≡ false
      → are_wait_sets threads 0 ms ≡ true → are_wait_sets (slice_set threads u new) 0 ms ≡ true
  wait_sets_left ms out sets =
      left_from 0 ms (λ i n e same. let is : r ≡ i = omega arith in subst (λ j. list_any (is_of u) (slice_index_or ms j unlocked).waiters ≡ false) is out) sets
