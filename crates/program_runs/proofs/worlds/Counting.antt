-- Counting the threads that may go on, and finding the one of a place among them.
use Rattle.std.proofs.Common.{◌≡◌, ◌<◌, ◌≤◌, ◌+◌, ◌-◌, ℕ, zero, suc, List, [], ◌∷◌, Option, Some, None, Bool, true, false, cond, length, refl, sym, ap, subst, ◌∙◌, arith}
use Rattle.std.specs.Prelude.{slice_get}
use Rattle.model.specs.Operands.{words}
use Rattle.run_laws.specs.word_reports.Reports.{may_step_of}
use Rattle.machine.specs.Machines.{MachineOf}
use Rattle.program_runs.specs.policies.Drawn.{AreAble, InShown, IsAbleAt, able_below}
use Rattle.program_runs.specs.worlds.Turns.{MayStep}
use Rattle.program_runs.proofs.policies.Able.{at, more}

module _ (m : MachineOf) where
  -- so many of the threads below a number
  abbrev pub AreCounted : (i count : ℕ) → Type 0
  AreCounted i count = InShown m (λ trees state. count ≡ length (able_below m trees state i))

  -- so many are left behind those below a number
  abbrev pub AreLeft : (i left place : ℕ) → Type 0
  AreLeft i left place = InShown m (λ trees state. left + length (able_below m trees state i) ≡ place)

  pub counted_first : AreCounted 0 0
  counted_first trees bounds inflated state program shown = refl

  pub left_first : (place : ℕ) → AreLeft 0 place place
  left_first place trees bounds inflated state program shown = let same : place + 0 ≡ place = omega arith in same

  module _ (i : ℕ) (answer : Bool) (may : MayStep m i answer) where
    longer : InShown m (λ trees state. length (able_below m trees state (i + 1)) ≡ length (able_below m trees state i) + cond answer 1 0)
    longer trees bounds inflated state program shown =
        let next : i + 1 ≡ suc i = omega arith in
        let p = may_step_of words trees m.limits.frames state in
        ap (λ n. length (able_below m trees state n)) next ∙ more p i
        ∙ ap (λ b. length (able_below m trees state i) + cond b 1 0) (sym (may trees bounds inflated state program shown))

  pub counted_more : (i count : ℕ) → MayStep m i true → AreCounted i count → AreCounted (i + 1) (count + 1)
  counted_more i count may h trees bounds inflated state program shown =
      omega (arith, h trees bounds inflated state program shown, longer i true may trees bounds inflated state program shown)

  pub counted_same : (i count : ℕ) → MayStep m i false → AreCounted i count → AreCounted (i + 1) count
  counted_same i count may h trees bounds inflated state program shown =
      omega (arith, h trees bounds inflated state program shown, longer i false may trees bounds inflated state program shown)

  pub left_less : (i left place : ℕ) → MayStep m i true → 0 < left → AreLeft i left place → AreLeft (i + 1) (left - 1) place
  left_less i left place may some h trees bounds inflated state program shown =
      omega (arith, some, h trees bounds inflated state program shown, longer i true may trees bounds inflated state program shown)

  pub left_same : (i left place : ℕ) → MayStep m i false → AreLeft i left place → AreLeft (i + 1) left place
  left_same i left place may h trees bounds inflated state program shown =
      omega (arith, h trees bounds inflated state program shown, longer i false may trees bounds inflated state program shown)

  -- ---- behind the last thread

  pub all_counted : (i count : ℕ) → i ≡ length m.shared.threads.threads → AreCounted i count → AreAble m count
  all_counted i count last h = subst (λ n. AreCounted n count) last h

  beyond : (xs : List ℕ) (k : ℕ) → length xs ≤ k → None ≡ slice_get xs k
  beyond [] k le = refl
  beyond (x ∷ xs) zero le = absurd (omega (arith, le))
  beyond (x ∷ xs) (suc k) le = beyond xs k (omega (arith, le))

  pub none_left : (i left place : ℕ) → i ≡ length m.shared.threads.threads → AreLeft i left place → IsAbleAt m place None
  none_left i left place last h trees bounds inflated state program shown =
      beyond (able_below m trees state (length m.shared.threads.threads)) place
      (omega (arith, subst (λ n. AreLeft n left place) last h trees bounds inflated state program shown))

  -- ---- the one of the place

  pub found_there : (i left place : ℕ) → i < length m.shared.threads.threads → MayStep m i true → left ≡ 0 → AreLeft i left place → IsAbleAt m place (Some i)
  found_there i left place there may none h trees bounds inflated state program shown =
      let p = may_step_of words trees m.limits.frames state in
      let place_is : length (able_below m trees state i) ≡ place = omega (arith, none, h trees bounds inflated state program shown) in
      sym (at p (length m.shared.threads.threads) i there (sym (may trees bounds inflated state program shown)))
      ∙ ap (slice_get (able_below m trees state (length m.shared.threads.threads))) place_is
