-- A world stays one of the same class files, under the same limits and with the same budget, unless it is stopped.
use Rattle.std.proofs.Common.{◌≡◌, ◌<◌, ℕ, Bool, Option, Some, None, Result, true, false, inl, inr, sym, ap, subst, ◌∙◌, arith}
use Rattle.std.specs.Prelude.{IfOk, IsTrue}
use Rattle.model.specs.declared.end.End.{End}
use Rattle.model.specs.declared.limits.Limits.{Limits}
use Rattle.model.specs.Classes.{Program}
use Rattle.program_runs.specs.declared.worlds.commits.Commit.{Commit}
use Rattle.program_runs.specs.declared.worlds.commits.Commit.TheVariants as commit
use Rattle.program_runs.specs.declared.worlds.commits.ThreadBurst.{ThreadBurst}
use Rattle.program_runs.specs.worlds.Commits.{Commits}
use Rattle.program_runs.specs.declared.worlds.records.Recorded.{Recorded}
use Rattle.program_runs.specs.worlds.Records.{IsRecordOf, IsRecordWithin}
use Rattle.program_runs.specs.worlds.Worlds.{WorldOf, IsNew, IsOfSame, IsSpent, Stops, TakesTurn, stopped_world}
use Rattle.program_runs.specs.workers.Runs.{IsWorldOf, TakesOver}
use Rattle.program_runs.proofs.worlds.Staying.{at_most, record_within}

-- of files, limits and budget alone
still_of : (old new : WorldOf) → new ≡ record old { events = new.events; machine = record old.machine { shared = new.machine.shared } }
    → IsOfSame old new
still_of old new h = record { trees = ap (λ (w : WorldOf). w.trees) h; budget = ap (λ (w : WorldOf). w.budget) h; limits = ap (λ (w : WorldOf). w.machine.limits) h }

same_of : (old new : WorldOf) → new ≡ record old { machine = record old.machine { shared = new.machine.shared } } → IsOfSame old new
same_of old new h = record { trees = ap (λ (w : WorldOf). w.trees) h; budget = ap (λ (w : WorldOf). w.budget) h; limits = ap (λ (w : WorldOf). w.machine.limits) h }

module _ (trees : Program) (limits : Limits) (budget : ℕ) (may_stop : Bool) where
  pub after_same : (old new : WorldOf) → IsWorldOf trees limits budget may_stop old → IsOfSame old new → IsWorldOf trees limits budget may_stop new
  after_same old new is same =
      record { trees_are = same.trees ∙ is.trees_are; limits_are = same.limits ∙ is.limits_are; budget_is = subst (IsSpent may_stop budget) (sym same.budget) is.budget_is }

  pub after_turn : (old new : WorldOf) (from most : ℕ) (end : Option End) (result : Option ℕ)
      → IsWorldOf trees limits budget may_stop old → TakesTurn from most end result old new → IsWorldOf trees limits budget may_stop new
  after_turn old new from most (Some end) result is h = subst (IsWorldOf trees limits budget may_stop) (sym h.1) is
  after_turn old new from most None (Some t) is h = after_same old new is h.1.repeated.same
  after_turn old new from most None None is h = after_same old new is h.same

  pub after_commit : (old new : WorldOf) (out : ThreadBurst) (result : Commit)
      → IsWorldOf trees limits budget may_stop old → Commits result old out new → IsWorldOf trees limits budget may_stop new
  after_commit old new out commit.Committed is h = after_same old new is (still_of old new h.rest)
  after_commit old new out commit.Stale is h = after_same old new is (same_of old new h.1.rest)

  -- a run that may be stopped is
  pub after_stop : (old new : WorldOf) (end : Option End) → IsTrue may_stop → IsWorldOf trees limits budget may_stop old → Stops end old new → IsWorldOf trees limits budget may_stop new
  after_stop old new (Some end) may is h = subst (IsWorldOf trees limits budget may_stop) (sym h) is
  after_stop old new None may is (inl h) = subst (IsWorldOf trees limits budget may_stop) (sym h.1) is
  after_stop old new None may is (inr h) = subst (IsWorldOf trees limits budget may_stop) (sym h.1) there
    where
      there : IsWorldOf trees limits budget may_stop (stopped_world old)
      there = record { trees_are = is.trees_are; limits_are = is.limits_are; budget_is = inr (may, omega (arith, h.0, at_most may_stop budget old.budget is.budget_is)) }

-- the record of a world that workers share, which was new
pub record_of_shared : (trees : Program) (limits : Limits) (budget : ℕ) (may_stop : Bool) (old w : WorldOf) → IsNew trees limits budget old
    → IsWorldOf old.trees old.machine.limits old.budget may_stop w
    → {E : Type 0} (result : Result Recorded E) → IfOk result (IsRecordOf w.trees w.machine.limits w.budget) → IfOk result (IsRecordWithin may_stop trees limits budget)
record_of_shared trees limits budget may_stop old w is_new is result recorded =
    record_within may_stop trees limits budget w (is.trees_are ∙ is_new.trees_are) (is.limits_are ∙ is_new.limits_are)
    (subst (λ b. IsSpent may_stop b w.budget) is_new.budget_is is.budget_is) result recorded

-- what became of a burst that has steps
pub taken : (r : Commit) (old : WorldOf) (given : Option ThreadBurst) (out : ThreadBurst) (new now : WorldOf) → r ≡ commit.Committed
    → given ≡ Some out → 0 < out.burst.steps → old ≡ now → Commits r old out new → TakesOver true now given new
taken commit.Committed old given out new now is given_is some same h = rw (given_is, ← same) (some, h)
taken commit.Stale old given out new now is given_is some same h = absurd cc

pub left : (r : Commit) (old : WorldOf) (given : Option ThreadBurst) (out : ThreadBurst) (new now : WorldOf) → r ≡ commit.Stale
    → given ≡ Some out → old ≡ now → Commits r old out new → TakesOver false now given new
left commit.Stale old given out new now is given_is same h = rw (given_is, ← same) (inr h)
left commit.Committed old given out new now is given_is same h = absurd cc
