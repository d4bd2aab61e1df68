use Rattle.clap.specs.Words.{found_of, rows_of}
use Rattle.command_line.proofs.CommandLineLemmas.{refuses}
use Rattle.command_line.proofs.ClashLemmas.{clashing}
use Rattle.command_line.proofs.ProgramLemmas.{handed_on}
use Rattle.command_line.proofs.parse.run_options_of.Goals as goal

pub returns-in-Some-clause-none : goal.returns-in-Some-clause-none
returns-in-Some-clause-none c = refuses c.not_together.result _ c.not_together.ensures
    (clashing (rows_of (found_of c.args.matches.now)) _ _ _ _ c.in_ok-number.ensures.number c.in_ok-number-3.ensures.number
    c.in_ok-seed_of.ensures.number c.in_ok-policy_of.ensures.policy c.in-Some.ensures)

pub returns-in_err-number-clause-none : goal.returns-in_err-number-clause-none
returns-in_err-number-clause-none c =
    handed_on c.from_residual.result c.in_err-number.field-0.0 _ _ c.from_residual.ensures.1 c.in_err-number.ensures.none
    (λ none options are. none options.workers are.workers)

pub returns-in_err-number-2-clause-none : goal.returns-in_err-number-2-clause-none
returns-in_err-number-2-clause-none c =
    handed_on c.from_residual-in_err-number-2.result c.in_err-number-2.field-0.0 _ _ c.from_residual-in_err-number-2.ensures.1 c.in_err-number-2.ensures.none
    (λ none options are. none options.budget are.budget)

pub returns-in_err-number-3-clause-none : goal.returns-in_err-number-3-clause-none
returns-in_err-number-3-clause-none c =
    handed_on c.from_residual-in_err-number-3.result c.in_err-number-3.field-0.0 _ _ c.from_residual-in_err-number-3.ensures.1 c.in_err-number-3.ensures.none
    (λ none options are. none options.quantum are.quantum)

pub returns-in_err-seed_of-clause-none : goal.returns-in_err-seed_of-clause-none
returns-in_err-seed_of-clause-none c =
    handed_on c.from_residual-in_err-seed_of.result c.in_err-seed_of.field-0.0 _ _ c.from_residual-in_err-seed_of.ensures.1 c.in_err-seed_of.ensures.none
    (λ none options are. none options.seed are.seed)

pub returns-in_err-policy_of-clause-none : goal.returns-in_err-policy_of-clause-none
returns-in_err-policy_of-clause-none c =
    handed_on c.from_residual-in_err-policy_of.result c.in_err-policy_of.field-0.0 _ _ c.from_residual-in_err-policy_of.ensures.1 c.in_err-policy_of.ensures.none
    (λ none options are. none options.policy are.policy)
