-- The record of a run by a policy.
use Rattle.std.proofs.Common.{◌≡◌, ◌⊎◌, ℕ, [], ◌++◌, Bool, Result, Ok, Err, sym, ap, subst, ◌∙◌}
use Rattle.std.specs.Prelude.{IfOk}
use Rattle.model.specs.declared.end.End.{End}
use Rattle.model.specs.declared.limits.Limits.{Limits}
use Rattle.model.specs.Classes.{Program}
use Rattle.model.specs.LimitStands.{bounds_of}
use Rattle.model.specs.Schedule.{events_of}
use Rattle.program_runs.specs.declared.policies.policy.Policy.{Policy}
use Rattle.program_runs.specs.declared.worlds.records.Recorded.{Recorded}
use Rattle.program_runs.specs.policies.PolicyTurns.{IsEarly, IsRunBy, RunsThrough}
use Rattle.program_runs.specs.policies.Runs.{events_by}
use Rattle.program_runs.specs.worlds.Records.{Keeps}
use Rattle.program_runs.specs.worlds.Worlds.{WorldOf, IsNew}

run_by : (by : Policy) (may_stop : Bool) (trees : Program) (limits : Limits) (budget : ℕ) (old new : WorldOf) → IsNew trees limits budget old → (r : Recorded) → Keeps new r
    → RunsThrough by may_stop old new → IsRunBy by may_stop trees limits budget (events_of r.schedule) r.end
run_by by may_stop trees limits budget old new is_new r keeps through =
    let kept = keeps through.end through.is in
    let same : events_by by trees (bounds_of limits) budget ≡ events_by by old.trees (bounds_of old.machine.limits) old.budget =
    sym (ap (λ (t : Program). events_by by t (bounds_of old.machine.limits) old.budget) is_new.trees_are
    ∙ ap (λ (l : Limits). events_by by trees (bounds_of l) old.budget) is_new.limits_are ∙ ap (λ b. events_by by trees (bounds_of limits) b) is_new.budget_is)
    in
    record {
      left = through.left;
      front = same ∙ through.front ∙ ap (λ l. l ++ through.left) (sym kept.1);
      whole = subst (λ (e : End). (through.left ≡ []) ⊎ IsEarly may_stop e) (sym kept.0) through.whole;
    }

pub run_by_if : (by : Policy) (may_stop : Bool) (trees : Program) (limits : Limits) (budget : ℕ) (old new : WorldOf) → IsNew trees limits budget old → RunsThrough by may_stop old new
    → {E : Type 0} (result : Result Recorded E) → IfOk result (Keeps new) → IfOk result (λ (r : Recorded). IsRunBy by may_stop trees limits budget (events_of r.schedule) r.end)
run_by_if by may_stop trees limits budget old new is_new through (Ok r) keeps = run_by by may_stop trees limits budget old new is_new r keeps through
run_by_if by may_stop trees limits budget old new is_new through (Err e) keeps = tt
