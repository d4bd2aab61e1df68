use Rattle.clap.specs.Words.{found_of, rows_of}
use Rattle.command_line.proofs.ProgramLemmas.{handed_on, no_races}
use Rattle.command_line.proofs.parse.races_of.Goals as goal

pub returns-in_err-schedule-clause-none : goal.returns-in_err-schedule-clause-none
returns-in_err-schedule-clause-none c =
    handed_on c.from_residual.result c.in_err-schedule.field-0.0 _ _ c.from_residual.ensures.1 c.in_err-schedule.ensures.none
    (λ none races are. none _ are.schedule)

pub returns-in_err-program-clause-none : goal.returns-in_err-program-clause-none
returns-in_err-program-clause-none c =
    handed_on c.from_residual-in_err-program.result c.in_err-program.field-0.0 _ _ c.from_residual-in_err-program.ensures.1 c.in_err-program.ensures.none
    (no_races (rows_of (found_of c.args.matches.now)))

pub returns-clause-values : goal.returns-clause-values
returns-clause-values c =
    let program = c.in_ok-program.ensures.values in
    record {
      schedule = c.in_ok-schedule.ensures.path;
      any_files = c.is_set.ensures;
      limits = program.limits;
      main = program.main;
      files = program.files;
      explain = program.explain;
      quiet = program.quiet;
      files_alone = program.files_alone;
    }
