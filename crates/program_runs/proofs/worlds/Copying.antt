-- Finding the first thread that has a frame on top.
use Rattle.std.specs.Prelude.{IfOk, min}
use Rattle.std.proofs.Common.{◌≡◌, ◌⊎◌, ◌<◌, ◌≤◌, ◌+◌, ℕ, Option, Some, None, Result, Ok, Err, length, sym, subst, inl, inr, arith}
use Rattle.std.proofs.Math.Nat.{eq-or-lt_of_le}
use Rattle.std.proofs.Math.Decide.{dec_lt}
use Rattle.thread_stacks.specs.Stacks.{ShownFrame}
use Rattle.machine.specs.Machines.{MachineOf}
use Rattle.machine.specs.Tops.{HasTop}
use Rattle.program_runs.specs.declared.worlds.commits.ThreadBurst.{ThreadBurst}
use Rattle.program_runs.specs.worlds.Commits.{HasNone, CopiesFirst, ChecksOut}

pub one_more : (m : MachineOf) (from t : ℕ) → HasNone m from t → ((shown : ShownFrame) → HasTop m t shown → ⊥) → HasNone m from (t + 1)
one_more m from t none idle u low high = case (eq-or-lt_of_le (omega (arith, high)))
  where
    case : (u ≡ t) ⊎ (u < t) → (shown : ShownFrame) → HasTop m u shown → ⊥
    case (inl e) = subst (λ k. (shown : ShownFrame) → HasTop m k shown → ⊥) (sym e) idle
    case (inr lt) = none u low lt

pub none_to : (m : MachineOf) (from t to : ℕ) → HasNone m from t → to ≤ t → HasNone m from to
none_to m from t to none all u low high = none u low (omega (arith, high, all))

-- from the number on at which the rotation begins
pub found_above : (m : MachineOf) (from count : ℕ) (out : ThreadBurst) → count ≡ length m.shared.threads.threads
    → CopiesFirst m from count (Some out) → ChecksOut m from (Some out)
found_above m from count out all first = (omega (arith, first.1, all), first.2, inl (first.0, first.3))

-- below it, where there is none from it up
found_below : (m : MachineOf) (from below count : ℕ) (out : ThreadBurst) → count ≡ length m.shared.threads.threads → HasNone m from count
    → below ≤ from → below ≤ count → CopiesFirst m 0 below (Some out)
    → ChecksOut m from (Some out)
found_below m from below count out all none low high first =
    (omega (arith, first.1, high, all), first.2, inr (omega (arith, first.1, low), subst (HasNone m from) all none, first.3))

none_found : (m : MachineOf) (from below count : ℕ) → count ≡ length m.shared.threads.threads → HasNone m from count
    → (below ≡ from) ⊎ (below ≡ count) → HasNone m 0 below → ChecksOut m from None
none_found m from below count all above (inr e) under u low high = under u low (omega (arith, high, all, e))
none_found m from below count all above (inl e) under u low high = case (dec_lt u from)
  where
    case : Dec (u < from) → (shown : ShownFrame) → HasTop m u shown → ⊥
    case (yes lt) = under u low (omega (arith, lt, e))
    case (no ge) = above u (omega (arith, ge)) (omega (arith, high, all))

pub least : (a b k : ℕ) → k ≡ min a b → (k ≡ a) ⊎ (k ≡ b)
least a b k is = case (dec_lt a b)
  where
    case : Dec (a < b) → (k ≡ a) ⊎ (k ≡ b)
    case (yes lt) = inl (omega (arith, lt, is))
    case (no ge) = inr (omega (arith, ge, is))

-- by what is found below it
pub found_rest : (m : MachineOf) (from below count : ℕ) → count ≡ length m.shared.threads.threads → HasNone m from count → below ≤ from
    → below ≤ count → (below ≡ from) ⊎ (below ≡ count)
    → (r : Option ThreadBurst) → CopiesFirst m 0 below r → ChecksOut m from r
found_rest m from below count all none low high which (Some out) first = found_below m from below count out all none low high first
found_rest m from below count all none low high which None first = none_found m from below count all none which first

pub rest_if : (m : MachineOf) (from below count : ℕ) → count ≡ length m.shared.threads.threads → HasNone m from count → below ≤ from
    → below ≤ count → (below ≡ from) ⊎ (below ≡ count)
    → {E : Type 0} (r : Result (Option ThreadBurst) E) → IfOk r (CopiesFirst m 0 below) → IfOk r (ChecksOut m from)
rest_if m from below count all none low high which (Ok found) first = found_rest m from below count all none low high which found first
rest_if m from below count all none low high which (Err e) first = tt
