use Rattle.std.proofs.Common.{codes, subst, sym}
use Rattle.clap.specs.Words.{first_of, found_of, rows_of}
use Rattle.command_line.specs.Paths.{IsApart}
use Rattle.command_line.proofs.PathLemmas.{none_other}
use Rattle.command_line.proofs.ProgramLemmas.{handed_on, no_shrink}
use Rattle.command_line.proofs.parse.shrink_of.Goals as goal

pub returns-in_err-goal-clause-none : goal.returns-in_err-goal-clause-none
returns-in_err-goal-clause-none c =
    handed_on c.from_residual.result c.in_err-goal.field-0.0 _ _ c.from_residual.ensures.1 c.in_err-goal.ensures.none
    (λ none shrink are. none shrink.goal are.goal)

pub returns-in_err-schedule-clause-none : goal.returns-in_err-schedule-clause-none
returns-in_err-schedule-clause-none c =
    handed_on c.from_residual-in_err-schedule.result c.in_err-schedule.field-0.0 _ _ c.from_residual-in_err-schedule.ensures.1 c.in_err-schedule.ensures.none
    (λ none shrink are. none _ are.schedule)

pub returns-in_err-budget-clause-none : goal.returns-in_err-budget-clause-none
returns-in_err-budget-clause-none c =
    handed_on c.from_residual-in_err-budget.result c.in_err-budget.field-0.0 _ _ c.from_residual-in_err-budget.ensures.1 c.in_err-budget.ensures.none
    (λ none shrink are. none shrink.budget are.budget)

pub returns-in_err-recording-clause-none : goal.returns-in_err-recording-clause-none
returns-in_err-recording-clause-none c =
    handed_on c.from_residual-in_err-recording.result c.in_err-recording.field-0.0 _ _ c.from_residual-in_err-recording.ensures.1 c.in_err-recording.ensures.none
    (λ none shrink are. none shrink.as_version are.version)

pub returns-in_err-program-clause-none : goal.returns-in_err-program-clause-none
returns-in_err-program-clause-none c =
    handed_on c.from_residual-in_err-program.result c.in_err-program.field-0.0 _ _ c.from_residual-in_err-program.ensures.1 c.in_err-program.ensures.none
    (no_shrink (rows_of (found_of c.args.matches.now)))

pub returns-in_err-check_file-clause-none : goal.returns-in_err-check_file-clause-none
returns-in_err-check_file-clause-none c =
    handed_on c.from_residual-in_err-check_file.result c.in_err-check_file.field-0.0 _ _ c.from_residual-in_err-check_file.ensures.1 c.in_err-check_file.ensures.none
    (λ none shrink are. none_other (IsApart (first_of (codes "record") (rows_of (found_of c.args.matches.now)))) (first_of (codes "schedule") (rows_of (found_of c.args.matches.now))) _ c.in_ok-schedule.ensures.path
    (λ apart. none (subst (IsApart (first_of (codes "record") (rows_of (found_of c.args.matches.now)))) (sym c.as_str.ensures.value) apart)) _ are.schedule are.other_schedule)

pub returns-clause-values : goal.returns-clause-values
returns-clause-values c =
    let program = c.in_ok-program.ensures.values in
    record {
      goal = c.in_ok-goal.ensures.goal;
      schedule = c.in_ok-schedule.ensures.path;
      any_files = c.is_set.ensures;
      budget = c.in_ok-budget.ensures.number;
      recording = c.in_ok-recording.ensures.recording.path;
      version = c.in_ok-recording.ensures.recording.version;
      limits = program.values.limits;
      main = program.values.main;
      files = program.values.files;
      other_schedule = subst (IsApart (first_of (codes "record") (rows_of (found_of c.args.matches.now)))) c.as_str.ensures.value c.in_ok-check_file.ensures.apart;
      other_files = program.other_files;
      explain = program.values.explain;
      quiet = program.values.quiet;
      files_alone = program.values.files_alone;
    }
