-- The first thread in rotation that may go on.
use Rattle.std.proofs.Common.{◌≡◌, ◌⊎◌, inl, inr, ◌<◌, ◌≤◌, ◌+◌, ◌-◌, ℕ, zero, suc, List, ◌++◌, Option, Some, None, Bool, true, false, cond, length, refl, sym, ap, subst, ◌∙◌, arith}
use Rattle.std.specs.Prelude.{min}
use Rattle.std.specs.List.{find}
use Rattle.std.specs.Option.{option_or}
use Rattle.std.proofs.Math.Decide.{dec_lt}
use Rattle.std.proofs.Math.Nat.{min-eq_left, min-eq_right, min-le_left, min-le_right}
use Rattle.std.proofs.lemmas.List.Folds.{find-append}
use Rattle.model.specs.LimitStands.{bounds_of, inflated}
use Rattle.model.specs.Operands.{words}
use Rattle.model.specs.Rows.{counting}
use Rattle.model.specs.Run.{may_step}
use Rattle.model.specs.State.{State, StateOf}
use Rattle.run_laws.specs.word_reports.Reports.{AreReportsOfWords, IsReportedAs}
use Rattle.machine_state.specs.shown_runs.Runs.{HasRun}
use Rattle.machine.specs.Machines.{MachineOf}
use Rattle.program_runs.specs.continued_runs.Turns.{behind}
use Rattle.program_runs.specs.policies.Keeping.{IsFoundBehind}
use Rattle.program_runs.specs.policies.PolicyTurns.{IsAble}
use Rattle.program_runs.specs.policies.Runs.{counting_down, first_of, in_rotation}
use Rattle.program_runs.specs.worlds.Turns.{IsFound, IsFoundDownwards, MayGo, MayNone, MayStep}
use Rattle.program_runs.specs.worlds.Worlds.{WorldOf, Holds}

-- ---- found in a list

cond_true : {A : Type 0} (b : Bool) (x y : A) → b ≡ true → cond b x y ≡ x
cond_true true x y e = refl
cond_true false x y e = absurd cc

cond_false : {A : Type 0} (b : Bool) (x y : A) → b ≡ false → cond b x y ≡ y
cond_false false x y e = refl
cond_false true x y e = absurd cc

module _ (p : ℕ → Bool) where
  -- none of the numbers from one up to another passes
  abbrev None_in : (from to : ℕ) → Type 0
  None_in from to = (u : ℕ) → from ≤ u → u < to → p u ≡ false

  first_up : (from n t : ℕ) → from ≤ t → t < from + n → p t ≡ true → None_in from t → find p (counting from n) ≡ Some t
  first_up from zero t low high is none = absurd (omega (arith, low, high))
  first_up from (suc n) t low high is none =
      by (dec_lt from t) (λ above. first_up (suc from) n t above (omega (arith, high)) is (λ u over below. none u (omega (arith, over)) below))
    where
      by : Dec (from < t) → (suc from ≤ t → find p (counting (suc from) n) ≡ Some t) → find p (counting from (suc n)) ≡ Some t
      by (yes lt) later = cond_false (p from) (Some from) (find p (counting (suc from) n)) (none from (omega arith) lt) ∙ later (omega (arith, lt))
      by (no ge) later =
          let same : t ≡ from = omega (arith, low, ge) in
          cond_true (p from) (Some from) (find p (counting (suc from) n)) (subst (λ k. p k ≡ true) same is) ∙ ap Some (sym same)

  none_up : (from n : ℕ) → None_in from (from + n) → find p (counting from n) ≡ None
  none_up from zero none = refl
  none_up from (suc n) none =
      cond_false (p from) (Some from) (find p (counting (suc from) n)) (none from (omega arith) (omega arith))
      ∙ none_up (suc from) n (λ u above below. none u (omega (arith, above)) (omega (arith, below)))

  first_down : (n t : ℕ) → t < n → p t ≡ true → None_in (t + 1) n → find p (counting_down n) ≡ Some t
  first_down zero t high is none = absurd (omega (arith, high))
  first_down (suc n) t high is none = by (dec_lt t n) (λ lt. first_down n t lt is (λ u above below. none u above (omega (arith, below))))
    where
      by : Dec (t < n) → (t < n → find p (counting_down n) ≡ Some t) → find p (counting_down (suc n)) ≡ Some t
      by (yes lt) later = cond_false (p n) (Some n) (find p (counting_down n)) (none n (omega (arith, lt)) (omega arith)) ∙ later lt
      by (no ge) later =
          let same : t ≡ n = omega (arith, high, ge) in
          cond_true (p n) (Some n) (find p (counting_down n)) (subst (λ k. p k ≡ true) same is) ∙ ap Some (sym same)

  none_down : (n : ℕ) → None_in 0 n → find p (counting_down n) ≡ None
  none_down zero none = refl
  none_down (suc n) none =
      cond_false (p n) (Some n) (find p (counting_down n)) (none n (omega arith) (omega arith))
      ∙ none_down n (λ u above below. none u above (omega (arith, below)))

  found_first : (xs ys : List ℕ) (t : ℕ) → find p xs ≡ Some t → find p (xs ++ ys) ≡ Some t
  found_first xs ys t is = find-append p xs ys ∙ ap (λ o. option_or o (find p ys)) is

  found_then : (xs ys : List ℕ) (r : Option ℕ) → find p xs ≡ None → find p ys ≡ r → find p (xs ++ ys) ≡ r
  found_then xs ys r none is = find-append p xs ys ∙ ap (λ o. option_or o (find p ys)) none ∙ is

  -- ---- in rotation, of so many

  module _ (n : ℕ) where
    up_is : (from t : ℕ) → t < n → p t ≡ true → ((from ≤ t) × None_in from t) ⊎ ((t < from) × None_in from n × None_in 0 t)
        → find p (counting from (n - from) ++ counting 0 n) ≡ Some t
    up_is from t there is (inl h) =
        found_first (counting from (n - from)) (counting 0 n) t (first_up from (n - from) t h.0 (omega (arith, there, h.0)) is h.1)
    up_is from t there is (inr h) =
        found_then (counting from (n - from)) (counting 0 n) (Some t) (none_up from (n - from) (λ u above below. h.1 u above (omega (arith, above, below))))
        (first_up 0 n t (omega arith) (omega (arith, there)) is h.2)

    up_none : (from : ℕ) → None_in 0 n → find p (counting from (n - from) ++ counting 0 n) ≡ None
    up_none from none =
        found_then (counting from (n - from)) (counting 0 n) None (none_up from (n - from) (λ u above below. none u (omega arith) (omega (arith, above, below))))
        (none_up 0 n (λ u above below. none u above (omega (arith, below))))

    down_is : (number t : ℕ) → t < n → p t ≡ true → ((t < number) × None_in (t + 1) (min number n)) ⊎ ((number ≤ t) × None_in 0 number × None_in (t + 1) n)
        → find p (counting_down (min number n) ++ counting_down n) ≡ Some t
    down_is number t there is (inl h) =
        found_first (counting_down (min number n)) (counting_down n) t (first_down (min number n) t (least number n t h.0 there) is h.1)
      where
        least : (a b k : ℕ) → k < a → k < b → k < min a b
        least a b k left right = by (dec_lt a b)
          where
            by : Dec (a < b) → k < min a b
            by (yes lt) = let le : a ≤ b = omega (arith, lt) in subst (λ x. k < x) (sym (min-eq_left le)) left
            by (no ge) = let le : b ≤ a = omega (arith, ge) in subst (λ x. k < x) (sym (min-eq_right le)) right
    down_is number t there is (inr h) =
        found_then (counting_down (min number n)) (counting_down n) (Some t)
        (none_down (min number n) (λ u above below. h.1 u above (omega (arith, below, min-le_left number n))))
        (first_down n t there is h.2)

    down_none : (number : ℕ) → None_in 0 n → find p (counting_down (min number n) ++ counting_down n) ≡ None
    down_none number none =
        found_then (counting_down (min number n)) (counting_down n) None
        (none_down (min number n) (λ u above below. none u above (omega (arith, below, min-le_right number n)))) (none_down n none)

-- ---- in a world

module _ (reported : AreReportsOfWords) (w : WorldOf) (holds : Holds w) where
  abbrev m : MachineOf
  m = w.machine

  abbrev frames : ℕ
  frames = w.machine.limits.frames

  abbrev has : HasRun w.trees w.machine.program (bounds_of w.machine.limits) w.machine.shared w.events
  has = holds.done.run

  abbrev state : State
  state = holds.done.run.lead.state

  abbrev p : ℕ → Bool
  p = may_step w.trees frames state

  same : IsReportedAs words w.trees frames has.at state
  same = reported holds.files w.trees holds.done.accepted.linkable frames has.at state has.lead.are

  counts : length m.shared.threads.threads ≡ length state.world.threads
  counts = ap length has.shown.represents.world_is.threads ∙ ap (λ (s : StateOf ℕ). length s.world.threads) has.lead.are.are

  may_is : (t : ℕ) (r : Bool) → MayStep m t r → p t ≡ r
  may_is t r is = sym (is w.trees (bounds_of m.limits) (inflated w.trees frames w.events) has.at holds.done.program has.shown ∙ same.may t)

  idle : (from to : ℕ) → MayNone m from to → None_in p from to
  idle from to none u low high = may_is u false (none u low high)

  idle_all : (from : ℕ) → MayNone m from (length m.shared.threads.threads) → None_in p from (length state.world.threads)
  idle_all from none = subst (None_in p from) counts (idle from (length m.shared.threads.threads) none)

  by_found : (from : ℕ) (r : Option ℕ) → IsFound m from r → find p (counting from (length state.world.threads - from) ++ counting 0 (length state.world.threads)) ≡ r
  by_found from None found = up_none p (length state.world.threads) from (idle_all 0 found)
  by_found from (Some t) found = up_is p (length state.world.threads) from t (subst (λ k. t < k) counts found.0) (may_is t true found.1) (rotation found.2)
    where
      rotation : ((from ≤ t) × MayNone m from t) ⊎ ((t < from) × MayNone m from (length m.shared.threads.threads) × MayNone m 0 t)
          → ((from ≤ t) × None_in p from t) ⊎ ((t < from) × None_in p from (length state.world.threads) × None_in p 0 t)
      rotation (inl h) = inl (h.0, idle from t h.1)
      rotation (inr h) = inr (h.0, idle_all from h.1, idle 0 t h.2)

  by_found_down : (number : ℕ) (r : Option ℕ) → IsFoundDownwards m number r
      → find p (counting_down (min number (length state.world.threads)) ++ counting_down (length state.world.threads)) ≡ r
  by_found_down number None found = down_none p (length state.world.threads) number (idle_all 0 found)
  by_found_down number (Some t) found = down_is p (length state.world.threads) number t (subst (λ k. t < k) counts found.0) (may_is t true found.1) (rotation found.2)
    where
      rotation : ((t < number) × MayNone m (t + 1) (min number (length m.shared.threads.threads)))
          ⊎ ((number ≤ t) × MayNone m 0 number × MayNone m (t + 1) (length m.shared.threads.threads))
          → ((t < number) × None_in p (t + 1) (min number (length state.world.threads))) ⊎ ((number ≤ t) × None_in p 0 number × None_in p (t + 1) (length state.world.threads))
      rotation (inl h) = inl (h.0, subst (λ k. None_in p (t + 1) (min number k)) counts (idle (t + 1) (min number (length m.shared.threads.threads)) h.1))
      rotation (inr h) = inr (h.0, idle 0 number h.1, idle_all (t + 1) h.2)

  by_first : (r : Option ℕ) → IsFound m 0 r → find p (counting 0 (length state.world.threads)) ≡ r
  by_first None found = none_up p 0 (length state.world.threads) (λ u above below. idle_all 0 found u above (omega (arith, below)))
  by_first (Some t) found =
      first_up p 0 (length state.world.threads) t (omega arith) (let there = subst (λ k. t < k) counts found.0 in omega (arith, there)) (may_is t true found.1) (below found.2)
    where
      below : ((0 ≤ t) × MayNone m 0 t) ⊎ ((t < 0) × MayNone m 0 (length m.shared.threads.threads) × MayNone m 0 t) → None_in p 0 t
      below (inl h) = idle 0 t h.1
      below (inr h) = absurd (omega (arith, h.0))

  -- what is found is first in rotation
  pub first_is : (down : Bool) (last r : Option ℕ) → IsFoundBehind m down last r
      → first_of w.trees frames state (in_rotation down last (length state.world.threads)) ≡ r
  first_is down None r found = by_first r found
  first_is false (Some t) r found = by_found (behind t) r found
  first_is true (Some t) r found = by_found_down t r found

  there : (down : Bool) (last : Option ℕ) (t : ℕ) → IsFoundBehind m down last (Some t) → (t < length m.shared.threads.threads) × MayStep m t true
  there down None t found = (found.0, found.1)
  there false (Some u) t found = (found.0, found.1)
  there true (Some u) t found = (found.0, found.1)

  pub none_there : (down : Bool) (last : Option ℕ) → IsFoundBehind m down last None → IsFound m 0 None
  none_there down None found = found
  none_there false (Some u) found = found
  none_there true (Some u) found = found

pub able_if : AreReportsOfWords → (w : WorldOf) (down : Bool) (last : Option ℕ) (t : ℕ) → IsFoundBehind w.machine down last (Some t) → IsAble w t
able_if reported w down last t found holds =
    let is = there reported w holds down last t found in
    (may_is reported w holds t true is.1, subst (λ k. t < k) (counts reported w holds) is.0)

pub able_there : AreReportsOfWords → (w : WorldOf) (t : ℕ) → MayGo w.machine t → IsAble w t
able_there reported w t go holds = (may_is reported w holds t true go.1, subst (λ k. t < k) (counts reported w holds) go.0)
