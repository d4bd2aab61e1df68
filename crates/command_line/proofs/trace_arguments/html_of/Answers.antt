use Rattle.command_line.proofs.ProgramLemmas.{handed_on}
use Rattle.command_line.proofs.trace_arguments.html_of.Goals as goal

pub returns-in_err-check_file-clause-none : goal.returns-in_err-check_file-clause-none
returns-in_err-check_file-clause-none c =
    handed_on c.from_residual.result c.in_err-check_file.field-0.0 _ _ c.from_residual.ensures.1 c.in_err-check_file.ensures.none
    (λ none html are. none are.other_schedule)

pub returns-in_err-check_files-clause-none : goal.returns-in_err-check_files-clause-none
returns-in_err-check_files-clause-none c =
    handed_on c.from_residual-in_err-check_files.result c.in_err-check_files.field-0.0 _ _ c.from_residual-in_err-check_files.ensures.1 c.in_err-check_files.ensures.none
    (λ none html are. none are.other_files)

pub returns-clause-page : goal.returns-clause-page
returns-clause-page c = record {
  path = c.in_ok-html.ensures;
  other_schedule = c.in_ok-check_file.ensures.apart;
  other_files = c.in_ok-check_files.ensures.apart;
}
