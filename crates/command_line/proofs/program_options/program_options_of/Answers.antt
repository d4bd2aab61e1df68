use Rattle.command_line.proofs.ProgramLemmas.{handed_on}
use Rattle.command_line.proofs.program_options.program_options_of.Goals as goal

pub returns-in_err-limits-clause-none : goal.returns-in_err-limits-clause-none
returns-in_err-limits-clause-none c =
    handed_on c.from_residual.result c.in_err-limits.field-0.0 _ _ c.from_residual.ensures.1 c.in_err-limits.ensures.none
    (λ none program are. none program.limits are.limits)

pub returns-in_err-files-clause-none : goal.returns-in_err-files-clause-none
returns-in_err-files-clause-none c =
    handed_on c.from_residual-in_err-files.result c.in_err-files.field-0.0 _ _ c.from_residual-in_err-files.ensures.1 c.in_err-files.ensures.none
    (λ none program are. none _ are.files)

pub returns-clause-values : goal.returns-clause-values
returns-clause-values c = record {
  limits = c.in_ok-limits.ensures.limits;
  main = c.in_ok-main.ensures;
  files = c.in_ok-files.ensures.files;
  explain = c.is_set.ensures;
  quiet = c.is_set-2.ensures;
  files_alone = c.is_set-3.ensures;
}
