use Rattle.std.proofs.Common.{◌∙◌, sym}
use Rattle.std.specs.Prelude.{is_some}
use Rattle.engines.proofs.RunLemmas.{record_of_budget, run_of_workers, run_of_policy}
use Rattle.engines.proofs.running.recorded_run.Goals as goal

pub returns-in-Some-clause-recorded : goal.returns-in-Some-clause-recorded
returns-in-Some-clause-recorded g c =
    record_of_budget (is_some c.args.options.now.seconds) _ _ c.args.limits _ _ c.in_ok-verified.ensures.ok c.budget-budget.ensures c.run_workers.result c.run_workers.ensures

pub returns-in-Some-clause-as_asked : goal.returns-in-Some-clause-as_asked
returns-in-Some-clause-as_asked g c =
    run_of_workers c.args.options.now.options (is_some c.args.options.now.seconds) c.in-Some.workers (sym c.workers.ensures.value ∙ c.in-Some.is) c.args.verified c.args.limits _ c.run_workers.result

pub returns-in-None-clause-recorded : goal.returns-in-None-clause-recorded
returns-in-None-clause-recorded g c =
    record_of_budget (is_some c.args.options.now.seconds) _ _ c.args.limits _ _ c.in_ok-verified.ensures.ok c.budget-budget.ensures c.run_by_policy.result c.run_by_policy.ensures.recorded

pub returns-in-None-clause-as_asked : goal.returns-in-None-clause-as_asked
returns-in-None-clause-as_asked g c =
    run_of_policy c.args.options.now.options (is_some c.args.options.now.seconds) (sym c.workers.ensures.value ∙ c.in-None.is) c.policy_for-policy.result c.policy_for-policy.ensures.asked
    _ _ c.args.limits _ _ c.in_ok-verified.ensures.ok c.budget-budget.ensures c.run_by_policy.result c.run_by_policy.ensures.by_policy
