use Rattle.clap.specs.Words.{found_of, rows_of}
use Rattle.command_line.proofs.ProgramLemmas.{handed_on, no_run}
use Rattle.command_line.proofs.parse.run_of.Goals as goal

pub returns-in_err-options-clause-none : goal.returns-in_err-options-clause-none
returns-in_err-options-clause-none c =
    handed_on c.from_residual.result c.in_err-options.field-0.0 _ _ c.from_residual.ensures.1 c.in_err-options.ensures.none (λ none run are. none run.options are.options)

pub returns-in_err-seconds-clause-none : goal.returns-in_err-seconds-clause-none
returns-in_err-seconds-clause-none c =
    handed_on c.from_residual-in_err-seconds.result c.in_err-seconds.field-0.0 _ _ c.from_residual-in_err-seconds.ensures.1 c.in_err-seconds.ensures.none
    (λ none run are. none run.seconds are.seconds)

pub returns-in_err-sweep-clause-none : goal.returns-in_err-sweep-clause-none
returns-in_err-sweep-clause-none c =
    handed_on c.from_residual-in_err-sweep.result c.in_err-sweep.field-0.0 _ _ c.from_residual-in_err-sweep.ensures.1 c.in_err-sweep.ensures.none
    (λ none run are. none run.sweep are.sweep)

pub returns-in_err-recording-clause-none : goal.returns-in_err-recording-clause-none
returns-in_err-recording-clause-none c =
    handed_on c.from_residual-in_err-recording.result c.in_err-recording.field-0.0 _ _ c.from_residual-in_err-recording.ensures.1 c.in_err-recording.ensures.none
    (λ none run are. none run.as_version are.version)

pub returns-in_err-program-clause-none : goal.returns-in_err-program-clause-none
returns-in_err-program-clause-none c =
    handed_on c.from_residual-in_err-program.result c.in_err-program.field-0.0 _ _ c.from_residual-in_err-program.ensures.1 c.in_err-program.ensures.none
    (no_run (rows_of (found_of c.args.matches.now)))

pub returns-in_err-follow-clause-none : goal.returns-in_err-follow-clause-none
returns-in_err-follow-clause-none c =
    handed_on c.from_residual-in_err-follow.result c.in_err-follow.field-0.0 _ _ c.from_residual-in_err-follow.ensures.1 c.in_err-follow.ensures.none
    (λ none run are. none run.follow are.follow)

pub returns-in_err-races-clause-none : goal.returns-in_err-races-clause-none
returns-in_err-races-clause-none c =
    handed_on c.from_residual-in_err-races.result c.in_err-races.field-0.0 _ _ c.from_residual-in_err-races.ensures.1 c.in_err-races.ensures.none
    (λ none run are. none run.races are.races)

pub returns-clause-values : goal.returns-clause-values
returns-clause-values c =
    let program = c.in_ok-program.ensures.values in
    record {
      options = c.in_ok-options.ensures.numbers;
      seconds = c.in_ok-seconds.ensures.number;
      sweep = c.in_ok-sweep.ensures.sweep;
      recording = c.in_ok-recording.ensures.recording.path;
      version = c.in_ok-recording.ensures.recording.version;
      limits = program.values.limits;
      main = program.values.main;
      files = program.values.files;
      other_files = program.other_files;
      explain = program.values.explain;
      quiet = program.values.quiet;
      files_alone = program.values.files_alone;
      follow = c.in_ok-follow.ensures.follow;
      races = c.in_ok-races.ensures.races;
    }
