-- Finding the first thread that may go on.
use Rattle.std.proofs.Common.{◌≡◌, ◌⊎◌, ◌<◌, ◌≤◌, ◌+◌, ℕ, Option, Some, None, Bool, true, false, length, sym, subst, inl, inr, arith}
use Rattle.std.specs.Prelude.{min}
use Rattle.std.proofs.Math.Nat.{eq-or-lt_of_le, min-le_left, min-le_right, min-eq_left, min-eq_right}
use Rattle.std.proofs.Math.Decide.{dec_lt}
use Rattle.linked_code.specs.declared.program.LinkedProgram.{LinkedProgram}
use Rattle.machine_state.specs.declared.state.Shared.{Shared}
use Rattle.machine.specs.thread_standings.Standings.{MaySo}
use Rattle.machine.specs.Machines.{MachineOf}
use Rattle.program_runs.specs.worlds.Turns.{MayStep, MayNone, IsFirst, IsFound}

pub may_so : (m : MachineOf) (p : LinkedProgram) (s : Shared) (t : ℕ) (r : Bool) → p ≡ m.program → s ≡ m.shared
    → MaySo p s t m.limits.frames r → MayStep m t r
may_so m p s t r program shared is =
    subst (λ (q : LinkedProgram). MaySo q m.shared t m.limits.frames r) program (subst (λ (x : Shared). MaySo p x t m.limits.frames r) shared is)

pub one_more : (m : MachineOf) (from t : ℕ) → MayNone m from t → MayStep m t false → MayNone m from (t + 1)
one_more m from t none idle u low high = case (eq-or-lt_of_le (omega (arith, high)))
  where
    case : (u ≡ t) ⊎ (u < t) → MayStep m u false
    case (inl e) = subst (λ k. MayStep m k false) (sym e) idle
    case (inr lt) = none u low lt

pub none_to : (m : MachineOf) (from t to : ℕ) → MayNone m from t → to ≤ t → MayNone m from to
none_to m from t to none all u low high = none u low (omega (arith, high, all))

pub found_first : (m : MachineOf) (from t to : ℕ) → from ≤ t → t < to → MayStep m t true → MayNone m from t → IsFirst m from to (Some t)
found_first m from t to low high may none = (low, high, may, none)

module _ (m : MachineOf) (from count : ℕ) (all : count ≡ length m.shared.threads.threads) where
  -- from the number on at which the rotation begins
  pub found_above : (t : ℕ) → IsFirst m from count (Some t) → IsFound m from (Some t)
  found_above t first = (subst (λ n. t < n) all first.1, first.2, inl (first.0, first.3))

  -- below it, where there is none from it up
  found_below : (t : ℕ) → IsFirst m from count None → IsFirst m 0 (min from count) (Some t) → IsFound m from (Some t)
  found_below t none first =
      let left : min from count ≤ from = min-le_left from count in
      let right : min from count ≤ count = min-le_right from count in
      let low : t < min from count = first.1 in
      let within : t < count = omega arith in
      let below : t < from = omega arith in
      (subst (λ n. t < n) all within, first.2, inr (below, subst (MayNone m from) all none, first.3))

  is_below : (u : ℕ) → u < from → u < count → u < min from count
  is_below u a b = case (dec_lt from count)
    where
      case : Dec (from < count) → u < min from count
      case (yes lt) =
          let le : from ≤ count = omega (arith, lt) in
          subst (λ k. u < k) (sym (min-eq_left le)) a
      case (no ge) =
          let le : count ≤ from = omega (arith, ge) in
          subst (λ k. u < k) (sym (min-eq_right le)) b

  none_found : IsFirst m from count None → IsFirst m 0 (min from count) None → IsFound m from None
  none_found above below u low high = case (dec_lt u from)
    where
      within : u < count
      within = omega (arith, high, all)

      case : Dec (u < from) → MayStep m u false
      case (yes lt) = below u low (is_below u lt within)
      case (no ge) = above u (omega (arith, ge)) within

  -- by what is found below it
  pub found_rest : IsFirst m from count None → (r : Option ℕ) → IsFirst m 0 (min from count) r → IsFound m from r
  found_rest none (Some t) first = found_below t none first
  found_rest none None first = none_found none first
