-- Runs that are done ahead.
use Rattle.std.proofs.Common.{◌≡◌, ◌≤◌, ◌<◌, ◌+◌, ◌^◌, ℕ, suc, List, [], ◌∷◌, Result, length, sym, ap, subst, ◌∙◌, arith, add-zero, remove}
use Rattle.std.specs.Prelude.{IfOk, slice_index_or}
use Rattle.std.specs.declared.alloc.AllocError.{AllocError}
use Rattle.program_runs.specs.declared.worlds.records.Recorded.{Recorded}
use Rattle.sweeps.specs.Ahead.{AreAhead, AreRunsOf}
use Rattle.sweeps.specs.Policies.{IsRunWith, RunsBy}

-- the first one is that of the next seed
pub first_of : (by : RunsBy) (next : ℕ) (ahead : List (Result Recorded AllocError)) → AreAhead by next ahead → 1 ≤ length ahead
    → (r : Result Recorded AllocError) → r ≡ slice_index_or ahead 0 r → IfOk r (IsRunWith by next)
first_of by next ahead h some r is =
    subst (λ (x : Result Recorded AllocError). IfOk x (IsRunWith by next)) (sym is)
    (subst (λ n. IfOk (slice_index_or ahead 0 r) (IsRunWith by n)) (add-zero next) (h.are 0 r (omega (arith, some))))

-- behind it are those of the seeds behind
pub others_of : (by : RunsBy) (next : ℕ) (ahead new : List (Result Recorded AllocError)) → AreAhead by next ahead → 1 ≤ length ahead → new ≡ remove ahead 0
    → AreAhead by (next + 1) new
others_of by next [] new h some is = absurd (omega (arith, some))
others_of by next (r ∷ ahead) new h some is = subst (AreAhead by (next + 1)) (sym is) (record {
  fit = omega (arith, h.fit);
  are = λ i d lt. let number : next + suc i ≡ next + 1 + i = omega arith in
      subst (λ n. IfOk (slice_index_or ahead i d) (IsRunWith by n)) number (h.are (suc i) d (omega (arith, lt)));
})
