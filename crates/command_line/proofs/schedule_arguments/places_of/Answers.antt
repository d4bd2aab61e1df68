use Rattle.command_line.proofs.ProgramLemmas.{handed_on}
use Rattle.command_line.proofs.schedule_arguments.places_of.Goals as goal

pub returns-in_err-check_flag_alone-clause-none : goal.returns-in_err-check_flag_alone-clause-none
returns-in_err-check_flag_alone-clause-none c =
    handed_on c.from_residual.result c.in_err-check_flag_alone.field-0.0 _ _ c.from_residual.ensures.1 c.in_err-check_flag_alone.ensures.none
    (λ none places are. none are.no_write)

pub returns-in_err-check_alone-clause-none : goal.returns-in_err-check_alone-clause-none
returns-in_err-check_alone-clause-none c =
    handed_on c.from_residual-in_err-check_alone.result c.in_err-check_alone.field-0.0 _ _ c.from_residual-in_err-check_alone.ensures.1 c.in_err-check_alone.ensures.none
    (λ none places are. none are.no_version)

pub returns-in_err-schedule-clause-none : goal.returns-in_err-schedule-clause-none
returns-in_err-schedule-clause-none c =
    handed_on c.from_residual-in_err-schedule.result c.in_err-schedule.field-0.0 _ _ c.from_residual-in_err-schedule.ensures.1 c.in_err-schedule.ensures.none
    (λ none places are. none _ are.schedule)

pub returns-in_err-files-clause-none : goal.returns-in_err-files-clause-none
returns-in_err-files-clause-none c =
    handed_on c.from_residual-in_err-files.result c.in_err-files.field-0.0 _ _ c.from_residual-in_err-files.ensures.1 c.in_err-files.ensures.none
    (λ none places are. none _ are.files)

pub returns-clause-values : goal.returns-clause-values
returns-clause-values c = record {
  with_places = c.requires;
  no_write = c.in_ok-check_flag_alone.ensures.ok;
  no_version = c.in_ok-check_alone.ensures.ok;
  schedule = c.in_ok-schedule.ensures.path;
  any_files = c.is_set.ensures;
  main = c.in_ok-main.ensures;
  files = c.in_ok-files.ensures.files;
  explain = c.is_set-2.ensures;
  quiet = c.is_set-3.ensures;
  files_alone = c.is_set-4.ensures;
}
