use Rattle.std.proofs.Common.{sym, ◌∙◌}
use Rattle.clap.specs.Words.{found_of, rows_of}
use Rattle.command_line.proofs.CommandLineLemmas.{no_budget, no_record_behind, no_version_behind, unversioned}
use Rattle.command_line.proofs.ProgramLemmas.{handed_on}
use Rattle.command_line.proofs.parse.then_run_of.Goals as goal

pub returns-in_err-as_version-clause-none : goal.returns-in_err-as_version-clause-none
returns-in_err-as_version-clause-none c =
    handed_on c.from_residual.result c.in_err-as_version.field-0.0 _ _ c.from_residual.ensures.1 c.in_err-as_version.ensures.none
    (no_version_behind (rows_of (found_of c.args.matches.now)))

pub returns-in_err-budget-clause-none : goal.returns-in_err-budget-clause-none
returns-in_err-budget-clause-none c =
    handed_on c.from_residual-in_err-budget.result c.in_err-budget.field-0.0 _ _ c.from_residual-in_err-budget.ensures.1 c.in_err-budget.ensures.none
    (no_budget (rows_of (found_of c.args.matches.now)) (sym c.is_set.ensures ∙ c.if-is_set.true))

pub returns-in_err-check_beside-clause-none : goal.returns-in_err-check_beside-clause-none
returns-in_err-check_beside-clause-none c =
    handed_on c.from_residual-in_err-check_beside.result c.in_err-check_beside.field-0.0 _ _ c.from_residual-in_err-check_beside.ensures.1 c.in_err-check_beside.ensures.none
    (no_record_behind (rows_of (found_of c.args.matches.now)) (sym c.is_set.ensures ∙ c.if-is_set.false))

pub returns-in_ok-check_beside-clause-values : goal.returns-in_ok-check_beside-clause-values
returns-in_ok-check_beside-clause-values c = (
  sym c.is_set.ensures ∙ c.if-is_set.false,
  c.in_ok-check_beside.ensures.ok,
  unversioned (rows_of (found_of c.args.matches.now)) c.in_ok-as_version.as_version c.in_ok-as_version.ensures.version c.in_ok-check_beside.ensures.ok,
)
