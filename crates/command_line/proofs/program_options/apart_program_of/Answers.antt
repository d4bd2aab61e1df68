use Rattle.clap.specs.Words.{found_of, rows_of}
use Rattle.command_line.proofs.PathLemmas.{files_other, files_others}
use Rattle.command_line.proofs.ProgramLemmas.{handed_on}
use Rattle.command_line.proofs.program_options.apart_program_of.Goals as goal

pub returns-in_err-program-clause-none : goal.returns-in_err-program-clause-none
returns-in_err-program-clause-none c =
    handed_on c.from_residual.result c.in_err-program.field-0.0 _ _ c.from_residual.ensures.1 c.in_err-program.ensures.none
    (λ none program are. none program are.values)

pub returns-in_err-check_files-clause-none : goal.returns-in_err-check_files-clause-none
returns-in_err-check_files-clause-none c =
    handed_on c.from_residual-in_err-check_files.result c.in_err-check_files.field-0.0 _ _ c.from_residual-in_err-check_files.ensures.1 c.in_err-check_files.ensures.none
    (λ none program are. files_others (rows_of (found_of c.args.matches.now)) c.in_ok-program.program.files.items _ c.deref.ensures.value c.in_ok-program.ensures.values.files none
    program.files.items are.values.files are.other_files)

pub returns-clause-values : goal.returns-clause-values
returns-clause-values c = record {
  values = c.in_ok-program.ensures.values;
  other_files = files_other (rows_of (found_of c.args.matches.now)) c.in_ok-program.program.files.items _ c.deref.ensures.value c.in_ok-check_files.ensures.apart;
}
