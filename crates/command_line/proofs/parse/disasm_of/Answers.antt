use Rattle.command_line.proofs.ProgramLemmas.{handed_on}
use Rattle.command_line.proofs.parse.disasm_of.Goals as goal

pub returns-in_err-files-clause-none : goal.returns-in_err-files-clause-none
returns-in_err-files-clause-none c =
    handed_on c.from_residual.result c.in_err-files.field-0.0 _ _ c.from_residual.ensures.1 c.in_err-files.ensures.none
    (λ none disasm are. none _ are.files)

pub returns-clause-values : goal.returns-clause-values
returns-clause-values c = record {
  files = c.in_ok-files.ensures.files;
  names = c.is_set.ensures;
  explain = c.is_set-2.ensures;
  quiet = c.is_set-3.ensures;
}
