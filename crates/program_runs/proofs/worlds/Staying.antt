-- Files, limits and budget stay.
use Rattle.std.proofs.Common.{◌≡◌, ◌≤◌, ℕ, Bool, Option, Some, None, Result, Ok, Err, length, inl, inr, refl, sym, ap, subst, ◌∙◌, arith}
use Rattle.std.specs.Prelude.{IfOk, IsTrue}
use Rattle.model.specs.declared.end.End.{End}
use Rattle.model.specs.declared.limits.Limits.{Limits}
use Rattle.model.specs.Classes.{Program}
use Rattle.program_runs.specs.declared.worlds.records.Recorded.{Recorded}
use Rattle.program_runs.specs.worlds.Worlds.{WorldOf, IsNew, IsOfLess, IsOfSame, IsSpent, StopsFor, TakesTurn, stopped_world}
use Rattle.program_runs.specs.worlds.Records.{IsRecordOf, IsRecordWithin}

pub of_equal : (old new : WorldOf) → new ≡ old → IsOfSame old new
of_equal old new e =
    record {
      trees = ap (λ (w : WorldOf). w.trees) e;
      budget = ap (λ (w : WorldOf). w.budget) e;
      limits = ap (λ (w : WorldOf). w.machine.limits) e;
    }

pub joined : (a b c : WorldOf) → IsOfSame a b → IsOfSame b c → IsOfSame a c
joined a b c ab bc = record { trees = bc.trees ∙ ab.trees; budget = bc.budget ∙ ab.budget; limits = bc.limits ∙ ab.limits }

pub of_turn : (from most : ℕ) (end : Option End) (r : Option ℕ) (old new : WorldOf) → TakesTurn from most end r old new → IsOfSame old new
of_turn from most (Some end) r old new t = of_equal old new t.1
of_turn from most None (Some thread) old new t = t.1.repeated.same
of_turn from most None None old new t = t.same

-- what is a record after is one before
pub of_record : (old new : WorldOf) → IsOfSame old new → (r : Recorded) → IsRecordOf new.trees new.machine.limits new.budget r
    → IsRecordOf old.trees old.machine.limits old.budget r
of_record old new same r is =
    subst (λ (t : Program). IsRecordOf t old.machine.limits old.budget r) same.trees
    (subst (λ (l : Limits). IsRecordOf new.trees l old.budget r) same.limits (subst (λ b. IsRecordOf new.trees new.machine.limits b r) same.budget is))

-- ---- unless a run is stopped

module _ (may_stop : Bool) where
  pub less_of : (old new : WorldOf) → IsOfSame old new → IsOfLess may_stop old new
  less_of old new same = record { trees = same.trees; budget = inl same.budget; limits = same.limits }

  pub at_most : (budget spent : ℕ) → IsSpent may_stop budget spent → spent ≤ budget
  at_most budget spent (inl same) = omega (arith, same)
  at_most budget spent (inr (may, le)) = le

  -- behind events by which all stays
  less_behind_same : (first old new : WorldOf) → IsOfLess may_stop first old → IsOfSame old new → IsOfLess may_stop first new
  less_behind_same first old new less same =
      record {
        trees = same.trees ∙ less.trees;
        budget = subst (IsSpent may_stop first.budget) (sym same.budget) less.budget;
        limits = same.limits ∙ less.limits;
      }

  less_stopped : (first old new : WorldOf) → IsOfLess may_stop first old → StopsFor may_stop old new → IsOfLess may_stop first new
  less_stopped first old new less (inl still) = subst (IsOfLess may_stop first) (sym still) less
  less_stopped first old new less (inr (may, on, within, is)) = subst (IsOfLess may_stop first) (sym is) there
    where
      there : IsOfLess may_stop first (stopped_world old)
      there = record { trees = less.trees; budget = inr (may, omega (arith, within, at_most first.budget old.budget less.budget)); limits = less.limits }

  pub less_behind : (first old new told : WorldOf) → IsOfLess may_stop first old → IsOfSame old new → StopsFor may_stop new told → IsOfLess may_stop first told
  less_behind first old new told less same stops = less_stopped first new told (less_behind_same first old new less same) stops

  -- what is a record within what is spent
  pub record_within : (trees : Program) (limits : Limits) (budget : ℕ) (w : WorldOf) → w.trees ≡ trees → w.machine.limits ≡ limits → IsSpent may_stop budget w.budget
      → {E : Type 0} (result : Result Recorded E) → IfOk result (IsRecordOf w.trees w.machine.limits w.budget) → IfOk result (IsRecordWithin may_stop trees limits budget)
  record_within trees limits budget w of_trees of_limits spent (Ok r) is = (
    w.budget,
    spent,
    subst (λ (t : Program). IsRecordOf t limits w.budget r) of_trees (subst (λ (l : Limits). IsRecordOf w.trees l w.budget r) of_limits is),
  )
  record_within trees limits budget w of_trees of_limits spent (Err e) is = tt

  -- behind turns of a new world
  pub record_of_new : (trees : Program) (limits : Limits) (budget : ℕ) (old new : WorldOf) → IsNew trees limits budget old → IsOfLess may_stop old new
      → {E : Type 0} (result : Result Recorded E) → IfOk result (IsRecordOf new.trees new.machine.limits new.budget) → IfOk result (IsRecordWithin may_stop trees limits budget)
  record_of_new trees limits budget old new is_new less result is =
      record_within trees limits budget new (less.trees ∙ is_new.trees_are) (less.limits ∙ is_new.limits_are) (subst (λ b. IsSpent may_stop b new.budget) is_new.budget_is less.budget) result is
