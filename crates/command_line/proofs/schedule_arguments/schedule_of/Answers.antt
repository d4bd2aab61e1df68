use Rattle.command_line.proofs.ProgramLemmas.{handed_on}
use Rattle.command_line.proofs.schedule_arguments.schedule_of.Goals as goal

pub returns-in_err-check_beside-clause-none : goal.returns-in_err-check_beside-clause-none
returns-in_err-check_beside-clause-none c =
    handed_on c.from_residual.result c.in_err-check_beside.field-0.0 _ _ c.from_residual.ensures.1 c.in_err-check_beside.ensures.none
    (λ none schedule are. none are.no_schedule)

pub returns-in_err-check_beside-2-clause-none : goal.returns-in_err-check_beside-2-clause-none
returns-in_err-check_beside-2-clause-none c =
    handed_on c.from_residual-in_err-check_beside-2.result c.in_err-check_beside-2.field-0.0 _ _ c.from_residual-in_err-check_beside-2.ensures.1 c.in_err-check_beside-2.ensures.none
    (λ none schedule are. none are.no_main)

pub returns-in_err-check_places_flag-clause-none : goal.returns-in_err-check_places_flag-clause-none
returns-in_err-check_places_flag-clause-none c =
    handed_on c.from_residual-in_err-check_places_flag.result c.in_err-check_places_flag.field-0.0 _ _ c.from_residual-in_err-check_places_flag.ensures.1 c.in_err-check_places_flag.ensures.none
    (λ none schedule are. none are.no_any_files)

pub returns-in_err-check_places_flag-2-clause-none : goal.returns-in_err-check_places_flag-2-clause-none
returns-in_err-check_places_flag-2-clause-none c =
    handed_on c.from_residual-in_err-check_places_flag-2.result c.in_err-check_places_flag-2.field-0.0 _ _ c.from_residual-in_err-check_places_flag-2.ensures.1 c.in_err-check_places_flag-2.ensures.none
    (λ none schedule are. none are.no_files_alone)

pub returns-in_err-file-clause-none : goal.returns-in_err-file-clause-none
returns-in_err-file-clause-none c =
    handed_on c.from_residual-in_err-file.result c.in_err-file.field-0.0 _ _ c.from_residual-in_err-file.ensures.1 c.in_err-file.ensures.none
    (λ none schedule are. none _ are.file)

pub returns-in_err-as_version-clause-none : goal.returns-in_err-as_version-clause-none
returns-in_err-as_version-clause-none c =
    handed_on c.from_residual-in_err-as_version.result c.in_err-as_version.field-0.0 _ _ c.from_residual-in_err-as_version.ensures.1 c.in_err-as_version.ensures.none
    (λ none schedule are. none schedule.as_version are.version)

pub returns-clause-values : goal.returns-clause-values
returns-clause-values c = record {
  no_places = c.requires;
  no_schedule = c.in_ok-check_beside.ensures.ok;
  no_main = c.in_ok-check_beside-2.ensures.ok;
  no_any_files = c.in_ok-check_places_flag.ensures.ok;
  no_files_alone = c.in_ok-check_places_flag-2.ensures.ok;
  file = c.in_ok-file.ensures.file;
  write = c.is_set.ensures;
  version = c.in_ok-as_version.ensures.version;
  explain = c.is_set-2.ensures;
  quiet = c.is_set-3.ensures;
}
