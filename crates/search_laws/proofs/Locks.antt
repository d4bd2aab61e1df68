-- A monitor that a thread owns is changed by the thread: what the others ask of monitors commutes with that.
use Rattle.std.proofs.Common.{◌≡◌, ℕ, zero, suc, List, [], ◌∷◌, ◌++◌, Bool, true, false, ◌==◌, if◌then◌else◌, refl, sym, ap, ◌∙◌, subst}
use Rattle.std.specs.Prelude.{◌+◌, slice_set}
use Rattle.std.proofs.lemmas.Bool.{false≢true, eqb-true, eq-eqb}
use Rattle.std.proofs.lemmas.List.{set_comm}
use Rattle.model.specs.declared.value.Value.{Value}
use Rattle.model.specs.declared.monitor_answer.MonitorAnswer.TheVariants.{Held}
use Rattle.model.specs.Monitors as monitors
use Rattle.model.specs.Monitors.{Answered, unlocked, owns, monitor_at, answers_done, as_entrant, owned, relock_from, at_object, without}
use Rattle.model.specs.State.{ObjectOf, Monitor, Waiter, WakeCause, World}
use Rattle.model.specs.Worlds.{is_done, is_owner, may_enter, with_monitors, allocated, all_woken, woken, waiters_of}
use Rattle.search_laws.proofs.Owners.{owner_is, differs, not_owner}

-- what the thread makes of a monitor that it owns: the wait set stays, and no other thread comes to own it
pub record IsChange (t : ℕ) (change : Monitor → Monitor) : Type 0 where
  pub waiters : (m : Monitor) → (change m).waiters ≡ m.waiters
  pub commutes : (m : Monitor) (ws : List Waiter) → change (record m { waiters = ws }) ≡ record (change m) { waiters = ws }
  pub others : (m : Monitor) (v : ℕ) → (t ≡ v → ⊥) → owns t m.owner ≡ true → owns v (change m).owner ≡ false

-- ---- lists

pub at_other : (ms : List Monitor) (k j : ℕ) (x : Monitor) → (k ≡ j → ⊥) → monitor_at (slice_set ms k x) j ≡ monitor_at ms j
at_other [] k j x n = refl
at_other (m ∷ ms) zero zero x n = absurd (n refl)
at_other (m ∷ ms) zero (suc j) x n = refl
at_other (m ∷ ms) (suc k) zero x n = refl
at_other (m ∷ ms) (suc k) (suc j) x n = at_other ms k j x (λ e. n (ap suc e))

set_twice : (ms : List Monitor) (k : ℕ) (x y : Monitor) → slice_set (slice_set ms k x) k y ≡ slice_set ms k y
set_twice [] k x y = refl
set_twice (m ∷ ms) zero x y = refl
set_twice (m ∷ ms) (suc k) x y = ap (λ l. m ∷ l) (set_twice ms k x y)

module _ (t : ℕ) where
  -- one that is owned is there
  at_same : (ms : List Monitor) (r : ℕ) (x : Monitor) → owns t (monitor_at ms r).owner ≡ true → monitor_at (slice_set ms r x) r ≡ x
  at_same [] r x own = absurd (false≢true own)
  at_same (m ∷ ms) zero x own = refl
  at_same (m ∷ ms) (suc r) x own = at_same ms r x own

  set_added : (ms : List Monitor) (r : ℕ) (x : Monitor) → owns t (monitor_at ms r).owner ≡ true
      → slice_set (ms ++ unlocked ∷ []) r x ≡ slice_set ms r x ++ unlocked ∷ []
  set_added [] r x own = absurd (false≢true own)
  set_added (m ∷ ms) zero x own = refl
  set_added (m ∷ ms) (suc r) x own = ap (λ l. m ∷ l) (set_added ms r x own)

  at_added : (ms : List Monitor) (r : ℕ) → owns t (monitor_at ms r).owner ≡ true → monitor_at (ms ++ unlocked ∷ []) r ≡ monitor_at ms r
  at_added [] r own = absurd (false≢true own)
  at_added (m ∷ ms) zero own = refl
  at_added (m ∷ ms) (suc r) own = at_added ms r own

by_cases : {X : Type 0} (b : Bool) (object r : ℕ) → (object == r) ≡ b → (object ≡ r → X) → ((object ≡ r → ⊥) → X) → X
by_cases true object r q same other = same (eqb-true object r q)
by_cases false object r q same other = other (λ e. false≢true (sym q ∙ eq-eqb object r e))

module _ (t r : ℕ) (change : Monitor → Monitor) (c : IsChange t change) where
  -- the world with the monitor of that object changed
  abbrev pub with_change : World → World
  with_change w = record w { monitors = slice_set w.monitors r (change (monitor_at w.monitors r)) }

  abbrev pub Owned : World → Type 0
  Owned w = owns t (monitor_at w.monitors r).owner ≡ true

  module _ (v : ℕ) (ne : t ≡ v → ⊥) (w : World) (own : Owned w) where
    abbrev ms : List Monitor
    ms = w.monitors

    abbrev new : Monitor
    new = change (monitor_at ms r)

    abbrev old : Monitor
    old = monitor_at ms r

    not_owned : owns v old.owner ≡ false
    not_owned = not_owner t v old.owner ne own

    -- ---- which object it is not

    apart : (object : ℕ) → (object ≡ r → ⊥) → r ≡ object → ⊥
    apart object n e = n (sym e)

    pub owned_apart : (object : ℕ) → is_owner w v object ≡ true → object ≡ r → ⊥
    owned_apart object h e = false≢true (sym not_owned ∙ (sym (ap (λ k. owns v (monitor_at ms k).owner) e) ∙ h))

    enter_held : is_done (monitors.monitor_enter v old).answer ≡ false
    enter_held =
        let free = answers_done (owned old v 1) in
        let again = answers_done (owned old v (old.count + 1)) in
        let held : Answered Monitor = record { answer = Held; after = old } in
        ap (λ o. is_done (as_entrant v o old free again).answer) (owner_is t old.owner own)
        ∙ ap (λ (b : Bool). is_done (if b then again else held).answer) (differs t v ne)

    pub entered_apart : (object : ℕ) → may_enter w v object ≡ true → object ≡ r → ⊥
    entered_apart object h e = false≢true (sym enter_held ∙ (sym (ap (λ k. is_done (monitors.monitor_enter v (monitor_at ms k)).answer) e) ∙ h))

    pub relocked_apart : (object count : ℕ) → is_done (monitors.relock object v count ms).answer ≡ true → object ≡ r → ⊥
    relocked_apart object count h e =
        let held = ap (λ o. is_done (relock_from o old (answers_done (owned old v count))).answer) (owner_is t old.owner own) in
        false≢true (sym held ∙ (sym (ap (λ k. is_done (monitors.monitor_relock v count (monitor_at ms k)).answer) e) ∙ h))

    -- ---- what is read

    read_apart : (object : ℕ) → (object ≡ r → ⊥) → monitor_at (slice_set ms r new) object ≡ monitor_at ms object
    read_apart object n = at_other ms r object new (apart object n)

    pub owner_same : (object : ℕ) → is_owner (with_change w) v object ≡ is_owner w v object
    owner_same object =
        by_cases (object == r) object r refl
        (λ e. ap (λ k. owns v (monitor_at (slice_set ms r new) k).owner) e
        ∙ (ap (λ (m : Monitor). owns v m.owner) (at_same t ms r new own)
        ∙ (c.others old v ne own ∙ (sym not_owned ∙ sym (ap (λ k. owns v (monitor_at ms k).owner) e)))))
        (λ n. ap (λ (m : Monitor). owns v m.owner) (read_apart object n))

    pub waiters_same : (object : ℕ) → waiters_of (with_change w) object ≡ waiters_of w object
    waiters_same object =
        by_cases (object == r) object r refl
        (λ e. ap (λ k. (monitor_at (slice_set ms r new) k).waiters) e
        ∙ (ap (λ (m : Monitor). m.waiters) (at_same t ms r new own)
        ∙ (c.waiters old ∙ sym (ap (λ k. (monitor_at ms k).waiters) e))))
        (λ n. ap (λ (m : Monitor). m.waiters) (read_apart object n))

    pub count_same : (object : ℕ) → (object ≡ r → ⊥) → (monitor_at (slice_set ms r new) object).count ≡ (monitor_at ms object).count
    count_same object n = ap (λ (m : Monitor). m.count) (read_apart object n)

    -- ---- what is asked of another monitor

    pub answer_same : (object : ℕ) (call : Monitor → Answered Monitor) → (object ≡ r → ⊥)
        → (at_object object call (slice_set ms r new)).answer ≡ (at_object object call ms).answer
    answer_same object call n = ap (λ m. (call m).answer) (read_apart object n)

    called_list : (object : ℕ) (call : Monitor → Answered Monitor) → (object ≡ r → ⊥)
        → slice_set (slice_set ms r new) object (call (monitor_at (slice_set ms r new) object)).after
        ≡ slice_set (slice_set ms object (call (monitor_at ms object)).after) r (change (monitor_at (slice_set ms object (call (monitor_at ms object)).after) r))
    called_list object call n =
        let x = (call (monitor_at ms object)).after in
        ap (λ m. slice_set (slice_set ms r new) object (call m).after) (read_apart object n)
        ∙ (set_comm ms r object new x (apart object n)
        ∙ ap (λ m. slice_set (slice_set ms object x) r (change m)) (sym (at_other ms object r x n)))

    pub called_same : (object : ℕ) (call : Monitor → Answered Monitor) → (object ≡ r → ⊥)
        → with_monitors (with_change w) (at_object object call (with_change w).monitors)
        ≡ with_change (with_monitors w (at_object object call w.monitors))
    called_same object call n = ap (λ l. record w { monitors = l }) (called_list object call n)

    -- ---- what changes the wait set alone, of any object

    abbrev leaving_set : (List Waiter → List Waiter) → Monitor → Answered Monitor
    leaving_set which m = answers_done (record m { waiters = which m.waiters })

    left_list : (object : ℕ) (which : List Waiter → List Waiter)
        → slice_set (slice_set ms r new) object (leaving_set which (monitor_at (slice_set ms r new) object)).after
        ≡ slice_set (slice_set ms object (leaving_set which (monitor_at ms object)).after) r
        (change (monitor_at (slice_set ms object (leaving_set which (monitor_at ms object)).after) r))
    left_list object which = by_cases (object == r) object r refl (λ e. here object e) (λ n. called_list object (leaving_set which) n)
      where
        here : (object : ℕ) → object ≡ r
            → slice_set (slice_set ms r new) object (leaving_set which (monitor_at (slice_set ms r new) object)).after
            ≡ slice_set (slice_set ms object (leaving_set which (monitor_at ms object)).after) r
            (change (monitor_at (slice_set ms object (leaving_set which (monitor_at ms object)).after) r))
        here object e =
            subst (λ k. slice_set (slice_set ms r new) k (leaving_set which (monitor_at (slice_set ms r new) k)).after
            ≡ slice_set (slice_set ms k (leaving_set which (monitor_at ms k)).after) r (change (monitor_at (slice_set ms k (leaving_set which (monitor_at ms k)).after) r))) (sym e) at_r
          where
            at_r : slice_set (slice_set ms r new) r (leaving_set which (monitor_at (slice_set ms r new) r)).after
                ≡ slice_set (slice_set ms r (leaving_set which old).after) r (change (monitor_at (slice_set ms r (leaving_set which old).after) r))
            at_r =
                let x = (leaving_set which old).after in
                ap (λ m. slice_set (slice_set ms r new) r (leaving_set which m).after) (at_same t ms r new own)
                ∙ (ap (λ ws. slice_set (slice_set ms r new) r (record new { waiters = which ws })) (c.waiters old)
                ∙ (set_twice ms r new (record new { waiters = which old.waiters })
                ∙ (ap (λ m. slice_set ms r m) (sym (c.commutes old (which old.waiters)))
                ∙ (sym (set_twice ms r x (change x))
                ∙ ap (λ m. slice_set (slice_set ms r x) r (change m)) (sym (at_same t ms r x own))))))

    pub woken_all_same : (object : ℕ) → with_monitors (with_change w) (monitors.wake_all object (with_change w).monitors)
        ≡ with_change (with_monitors w (monitors.wake_all object w.monitors))
    woken_all_same object = ap (λ l. record w { monitors = l }) (left_list object (λ ws. []))

    pub interrupted_same : (object u : ℕ) → with_monitors (with_change w) (monitors.interrupt object u (with_change w).monitors)
        ≡ with_change (with_monitors w (monitors.interrupt object u w.monitors))
    interrupted_same object u = ap (λ l. record w { monitors = l }) (left_list object (without u))

    -- ---- objects

    pub allocated_same : (object : ObjectOf Value) → allocated (with_change w) object ≡ with_change (allocated w object)
    allocated_same object =
        ap (λ l. record w { heap = w.heap ++ object ∷ []; monitors = l })
        (sym (ap (λ m. slice_set (ms ++ unlocked ∷ []) r (change m)) (at_added t ms r own) ∙ set_added t ms r new own))

  -- waking threads changes no monitor
  pub woken_same : (object : ℕ) (cause : WakeCause) (ws : List Waiter) (w : World)
      → all_woken object cause (with_change w) ws ≡ with_change (all_woken object cause w ws)
  woken_same object cause [] w = refl
  woken_same object cause (waiter ∷ ws) w = woken_same object cause ws (woken object cause w waiter)
