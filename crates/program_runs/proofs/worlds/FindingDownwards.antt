-- Finding the first thread that may go on, downwards.
use Rattle.std.proofs.Common.{◌≡◌, ◌⊎◌, ◌<◌, ◌≤◌, ◌+◌, ◌-◌, ℕ, Option, Some, None, true, false, length, sym, subst, inl, inr, arith}
use Rattle.std.specs.Prelude.{min}
use Rattle.std.proofs.Math.Nat.{eq-or-lt_of_le, min-le_left, min-le_right, min-eq_left, min-eq_right}
use Rattle.std.proofs.Math.Decide.{dec_lt}
use Rattle.machine.specs.Machines.{MachineOf}
use Rattle.program_runs.specs.worlds.Turns.{MayStep, MayNone, IsLast, IsFoundDownwards}

-- one more below
pub one_more_below : (m : MachineOf) (t to : ℕ) → 0 < t → MayNone m t to → MayStep m (t - 1) false → MayNone m (t - 1) to
one_more_below m t to some none idle u low high = case (eq-or-lt_of_le low)
  where
    case : (t - 1 ≡ u) ⊎ (t - 1 < u) → MayStep m u false
    case (inl e) = subst (λ k. MayStep m k false) e idle
    case (inr lt) = none u (omega (arith, lt, some)) high

pub found_last : (m : MachineOf) (from t to : ℕ) → 0 < t → from ≤ t - 1 → t ≤ to → MayStep m (t - 1) true → MayNone m t to → IsLast m from to (Some (t - 1))
found_last m from t to some low high may none =
    let same : t - 1 + 1 ≡ t = omega (arith, some) in
    (low, omega (arith, some, high), may, subst (λ k. MayNone m k to) (sym same) none)

pub none_from : (m : MachineOf) (from t to : ℕ) → MayNone m t to → t ≤ from → MayNone m from to
none_from m from t to none all u low high = none u (omega (arith, low, all)) high

module _ (m : MachineOf) (number seam count : ℕ) (all : count ≡ length m.shared.threads.threads) (is : seam ≡ min number count) where
  within : seam ≤ count
  within = subst (λ k. k ≤ count) (sym is) (min-le_right number count)

  first : seam ≤ number
  first = subst (λ k. k ≤ number) (sym is) (min-le_left number count)

  is_seam : seam ≡ min number (length m.shared.threads.threads)
  is_seam = subst (λ n. seam ≡ min number n) all is

  -- below the number
  pub found_below : (t : ℕ) → IsLast m 0 seam (Some t) → IsFoundDownwards m number (Some t)
  found_below t last =
      let low : t < count = omega (arith, last.1, within) in
      let up : t < number = omega (arith, last.1, first) in
      (subst (λ n. t < n) all low, last.2, inl (up, subst (MayNone m (t + 1)) is_seam last.3))

  -- from it up, where there is none below it
  found_above : (t : ℕ) → IsLast m 0 seam None → IsLast m seam count (Some t) → IsFoundDownwards m number (Some t)
  found_above t none last = case (dec_lt number count)
    where
      case : Dec (number < count) → IsFoundDownwards m number (Some t)
      case (yes lt) =
          let le : number ≤ count = omega (arith, lt) in
          let same : seam ≡ number = subst (λ k. seam ≡ k) (min-eq_left le) is in
          (subst (λ n. t < n) all last.1, last.2, inr (omega (arith, last.0, same), subst (MayNone m 0) same none, subst (MayNone m (t + 1)) all last.3))
      case (no ge) =
          let le : count ≤ number = omega (arith, ge) in
          let same : seam ≡ count = subst (λ k. seam ≡ k) (min-eq_right le) is in
          absurd (omega (arith, last.0, last.1, same))

  none_found : IsLast m 0 seam None → IsLast m seam count None → IsFoundDownwards m number None
  none_found below above u low high = case (dec_lt u seam)
    where
      case : Dec (u < seam) → MayStep m u false
      case (yes lt) = below u low lt
      case (no ge) = above u (omega (arith, ge)) (subst (λ n. u < n) (sym all) high)

  -- by what is found from it up
  pub found_rest : IsLast m 0 seam None → (r : Option ℕ) → IsLast m seam count r → IsFoundDownwards m number r
  found_rest none (Some t) last = found_above t none last
  found_rest none None last = none_found none last
