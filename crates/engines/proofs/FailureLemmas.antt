-- When a failure is told.
use Rattle.std.proofs.Common.{arith, ◌≡◌, ◌⊎◌, ℕ, zero, suc, ◌+◌, List, [], ◌∷◌, sum_by, inl, inr, refl, subst, sym, ◌∙◌}
use Rattle.std.specs.Prelude.{IsTrue, Result, Ok, Err}
use Rattle.std.proofs.lemmas.List.Sums.{sum_by-cons}
use Rattle.engines.specs.Engines.{CountsFailure, CountsWith}
use Rattle.engines.specs.Failures.{TellsFailure, TellsFailures}
use Rattle.engines.specs.Files.{failures_of, has_failed}
use Rattle.engines.specs.declared.named_file.Reading.{Reading}
use Rattle.engines.specs.declared.named_file.Reading.TheVariants.{Ahead, There, Behind, Failed}
use Rattle.engines.specs.declared.fault.Fault.{Fault}
use Rattle.engines.specs.declared.fault.Fault.TheVariants as faults

-- a file with a failure has failed
pub failed_of : (reading : Reading) (n : ℕ) → failures_of reading ≡ suc n → IsTrue (has_failed reading)
failed_of Ahead n failures = absurd (omega (arith, failures))
failed_of (There bytes) n failures = absurd (omega (arith, failures))
failed_of Behind n failures = absurd (omega (arith, failures))
failed_of Failed n failures = refl

-- ---- beside as many others

counts_with : (fault : Fault) (old new n : ℕ) → CountsWith fault old new → CountsWith fault (old + n) (new + n)
counts_with faults.Device old new n counted = omega (arith, counted)
counts_with faults.Memory old new n counted = omega (arith, counted)
counts_with (faults.Refusal refusal) old new n counted = omega (arith, counted)
counts_with (faults.Schedule fault) old new n counted = omega (arith, counted)
counts_with (faults.Text fault) old new n counted = omega (arith, counted)
counts_with (faults.Place missing) old new n counted = omega (arith, counted)

counts_besides : {A : Type 0} (result : Result A Fault) (old new n : ℕ) → CountsFailure result old new → CountsFailure result (old + n) (new + n)
counts_besides (Ok value) old new n counted = omega (arith, counted)
counts_besides (Err fault) old new n counted = counts_with fault old new n counted

-- ---- none of some sources has failed, or one has

module _ {S : Type 0} (failures : S → ℕ) where
  abbrev AreWhole : List S → Type 0
  AreWhole sources = (sum_by failures sources ≡ 0) ⊎ ((source : S) × (n : ℕ) × (failures source ≡ suc n))

  one_more : (source : S) (sources : List S) (n : ℕ) → failures source ≡ n → AreWhole sources → AreWhole (source ∷ sources)
  one_more source sources zero none (inl whole) = inl (sum_by-cons failures source sources ∙ omega (arith, none, whole))
  one_more source sources zero none (inr failed) = inr failed
  one_more source sources (suc n) some rest = inr (source, n, some)

  none_or_one : (sources : List S) → AreWhole sources
  none_or_one [] = inl refl
  none_or_one (source ∷ sources) = one_more source sources (failures source) refl (none_or_one sources)

  module _ (elsewhere : Type 0) (told : (source : S) (n : ℕ) → failures source ≡ suc n → elsewhere) (sources : List S)
      (before old new : ℕ) (none : before ≡ 0) where
    device_told : AreWhole sources → sum_by failures sources + new ≡ before + old + 1 → TellsFailure elsewhere faults.Device old new
    device_told (inl whole) counted = inl (omega (arith, whole, none, counted))
    device_told (inr failed) counted = inr (told failed.0 failed.1 failed.2)

    fault_told : (fault : Fault) → CountsWith fault (before + old) (sum_by failures sources + new) → TellsFailure elsewhere fault old new
    fault_told faults.Device counted = device_told (none_or_one sources) counted
    fault_told faults.Memory counted = omega (arith, none, counted)
    fault_told (faults.Refusal refusal) counted = omega (arith, none, counted)
    fault_told (faults.Schedule fault) counted = omega (arith, none, counted)
    fault_told (faults.Text fault) counted = omega (arith, none, counted)
    fault_told (faults.Place missing) counted = omega (arith, none, counted)

    -- what an engine counts is told, that of its sources as what is elsewhere
    pub told_by : {A : Type 0} (result : Result A Fault) → CountsFailure result (before + old) (sum_by failures sources + new)
        → TellsFailures elsewhere result old new
    told_by (Ok value) counted = omega (arith, none, counted)
    told_by (Err fault) counted = fault_told fault counted

    -- whatever else has failed
    pub told_alone : {A : Type 0} (result : Result A Fault) → old ≡ new → CountsFailure result before (sum_by failures sources) → TellsFailures elsewhere result old new
    told_alone result same counted =
        told_by result (subst (λ n. CountsFailure result (before + old) (sum_by failures sources + n)) same (counts_besides result before (sum_by failures sources) old counted))

  -- the same of an engine that has one source more, or one alone
  module _ (elsewhere : Type 0) (told : (source : S) (n : ℕ) → failures source ≡ suc n → elsewhere) {A : Type 0} (result : Result A Fault)
      (source : S) where
    pub told_by_more : (sources : List S) (first second old new : ℕ) → first ≡ 0 → second ≡ 0
        → CountsFailure result (first + second + old) (failures source + sum_by failures sources + new) → TellsFailures elsewhere result old new
    told_by_more sources first second old new first_none second_none counted =
        told_by elsewhere told (source ∷ sources) (first + second) old new (omega (arith, first_none, second_none)) result
        (subst (λ n. CountsFailure result (first + second + old) (n + new)) (sym (sum_by-cons failures source sources)) counted)

    pub told_by_one : (before old new : ℕ) → before ≡ 0 → CountsFailure result (before + old) (failures source + new)
        → TellsFailures elsewhere result old new
    told_by_one before old new none counted =
        let one : sum_by failures (source ∷ []) ≡ failures source = omega (arith, sum_by-cons failures source []) in
        told_by elsewhere told (source ∷ []) before old new none result (subst (λ n. CountsFailure result (before + old) (n + new)) (sym one) counted)

    -- whatever else has failed
    pub told_by_itself : (before n : ℕ) → before ≡ 0 → CountsFailure result before (failures source) → TellsFailures elsewhere result n n
    told_by_itself before n none counted = told_by_one before n n none (counts_besides result before (failures source) n counted)

-- ---- beside others

fault_besides : (elsewhere : Type 0) (fault : Fault) (n old new : ℕ) → TellsFailure elsewhere fault old new → TellsFailure elsewhere fault (n + old) (n + new)
fault_besides elsewhere faults.Device n old new (inl counted) = inl (omega (arith, counted))
fault_besides elsewhere faults.Device n old new (inr other) = inr other
fault_besides elsewhere faults.Memory n old new counted = omega (arith, counted)
fault_besides elsewhere (faults.Refusal refusal) n old new counted = omega (arith, counted)
fault_besides elsewhere (faults.Schedule fault) n old new counted = omega (arith, counted)
fault_besides elsewhere (faults.Text fault) n old new counted = omega (arith, counted)
fault_besides elsewhere (faults.Place missing) n old new counted = omega (arith, counted)

-- what is told stays so where others have so many failures
pub told_besides : (elsewhere : Type 0) {A : Type 0} (result : Result A Fault) (n old new : ℕ) → TellsFailures elsewhere result old new
    → TellsFailures elsewhere result (n + old) (n + new)
told_besides elsewhere (Ok value) n old new counted = omega (arith, counted)
told_besides elsewhere (Err fault) n old new counted = fault_besides elsewhere fault n old new counted
