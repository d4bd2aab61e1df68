use Rattle.command_line.proofs.ProgramLemmas.{handed_on}
use Rattle.command_line.proofs.sweep_arguments.sweep_by.Goals as goal

pub returns-in_err-seeds-clause-none : goal.returns-in_err-seeds-clause-none
returns-in_err-seeds-clause-none c =
    handed_on c.from_residual.result c.in_err-seeds.field-0.0 _ _ c.from_residual.ensures.1 c.in_err-seeds.ensures.none
    (λ none sweep is. none sweep.seeds is.seeds)

pub returns-in_err-check_alone-clause-none : goal.returns-in_err-check_alone-clause-none
returns-in_err-check_alone-clause-none c =
    handed_on c.from_residual-in_err-check_alone.result c.in_err-check_alone.field-0.0 _ _ c.from_residual-in_err-check_alone.ensures.1 c.in_err-check_alone.ensures.none
    (λ none sweep is. none is.no_seed)

pub returns-in_err-check_alone-2-clause-none : goal.returns-in_err-check_alone-2-clause-none
returns-in_err-check_alone-2-clause-none c =
    handed_on c.from_residual-in_err-check_alone-2.result c.in_err-check_alone-2.field-0.0 _ _ c.from_residual-in_err-check_alone-2.ensures.1 c.in_err-check_alone-2.ensures.none
    (λ none sweep is. none is.no_quantum)

pub returns-in_err-policy-clause-none : goal.returns-in_err-policy-clause-none
returns-in_err-policy-clause-none c =
    handed_on c.from_residual-in_err-policy.result c.in_err-policy.field-0.0 _ _ c.from_residual-in_err-policy.ensures.1 c.in_err-policy.ensures.none
    (λ none sweep is. none sweep.policy is.policy)

pub returns-in_err-for_race-clause-none : goal.returns-in_err-for_race-clause-none
returns-in_err-for_race-clause-none c =
    handed_on c.from_residual-in_err-for_race.result c.in_err-for_race.field-0.0 _ _ c.from_residual-in_err-for_race.ensures.1 c.in_err-for_race.ensures.none
    (λ none sweep is. none sweep.for_race sweep.goal is.goal)

pub returns-clause-sweep : goal.returns-clause-sweep
returns-clause-sweep c = record {
  seeds = c.in_ok-seeds.ensures.seeds;
  no_seed = c.in_ok-check_alone.ensures.ok;
  no_quantum = c.in_ok-check_alone-2.ensures.ok;
  policy = c.in_ok-policy.ensures.policy;
  goal = c.in_ok-for_race.ensures.goal;
}
