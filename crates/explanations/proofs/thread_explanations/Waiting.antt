-- For what the first so many threads wait.
use Rattle.std.proofs.Common.{◌≡◌, ◌+◌, ℕ, zero, suc, List, [], ◌∷◌, ◌++◌, length, refl, ap, arith}
use Rattle.std.proofs.lemmas.List.{length-append}
use Rattle.linked_code.specs.declared.program.LinkedProgram.{LinkedProgram}
use Rattle.machine_state.specs.declared.state.Shared.{Shared}
use Rattle.model.specs.declared.report.EndState.{EndState}
use Rattle.explanations.specs.thread_explanations.Waits.{first_waits, wait_at}

module _ (p : LinkedProgram) (shared : Shared) (ends : List EndState) where
  pub one_more : (n : ℕ) → first_waits p shared ends (n + 1) ≡ first_waits p shared ends n ++ wait_at p shared ends n ∷ []
  one_more n =
      let next : n + 1 ≡ suc n = omega arith in
      ap (first_waits p shared ends) next

  pub counted : (n : ℕ) → length (first_waits p shared ends n) ≡ n
  counted zero = refl
  counted (suc n) =
      let before = counted n in
      let longer = length-append (first_waits p shared ends n) (wait_at p shared ends n ∷ []) in
      omega (arith, before, longer)
