use Rattle.std.proofs.Common.{◌∙◌, ap, map, string_bytes, sym, Some}
use Rattle.clap.specs.Words.{found_of, rows_of}
use Rattle.command_line.proofs.ProgramLemmas.{handed_on, no_trace}
use Rattle.command_line.proofs.TraceLemmas.{same_page}
use Rattle.command_line.proofs.parse.trace_of.Goals as goal

pub returns-in_err-schedule-clause-none : goal.returns-in_err-schedule-clause-none
returns-in_err-schedule-clause-none c =
    handed_on c.from_residual.result c.in_err-schedule.field-0.0 _ _ c.from_residual.ensures.1 c.in_err-schedule.ensures.none
    (λ none trace are. none _ are.schedule)

pub returns-in_err-from-clause-none : goal.returns-in_err-from-clause-none
returns-in_err-from-clause-none c =
    handed_on c.from_residual-in_err-from.result c.in_err-from.field-0.0 _ _ c.from_residual-in_err-from.ensures.1 c.in_err-from.ensures.none
    (λ none trace are. none trace.from are.from)

pub returns-in_err-to-clause-none : goal.returns-in_err-to-clause-none
returns-in_err-to-clause-none c =
    handed_on c.from_residual-in_err-to.result c.in_err-to.field-0.0 _ _ c.from_residual-in_err-to.ensures.1 c.in_err-to.ensures.none
    (λ none trace are. none trace.to are.to)

pub returns-in_err-only-clause-none : goal.returns-in_err-only-clause-none
returns-in_err-only-clause-none c =
    handed_on c.from_residual-in_err-only.result c.in_err-only.field-0.0 _ _ c.from_residual-in_err-only.ensures.1 c.in_err-only.ensures.none
    (λ none trace are. none _ are.only)

pub returns-in_err-form-clause-none : goal.returns-in_err-form-clause-none
returns-in_err-form-clause-none c =
    handed_on c.from_residual-in_err-form.result c.in_err-form.field-0.0 _ _ c.from_residual-in_err-form.ensures.1 c.in_err-form.ensures.none
    (λ none trace are. none trace.form are.form)

pub returns-in_err-program-clause-none : goal.returns-in_err-program-clause-none
returns-in_err-program-clause-none c =
    handed_on c.from_residual-in_err-program.result c.in_err-program.field-0.0 _ _ c.from_residual-in_err-program.ensures.1 c.in_err-program.ensures.none
    (no_trace (rows_of (found_of c.args.matches.now)))

pub returns-in_err-html-clause-none : goal.returns-in_err-html-clause-none
returns-in_err-html-clause-none c =
    let schedule = c.in_ok-schedule.ensures.path ∙ ap Some (sym c.as_str.ensures.value) in
    let files = c.in_ok-program.ensures.values.files ∙ ap (λ l. Some (map string_bytes l)) (sym c.deref.ensures.value) in
    handed_on c.from_residual-in_err-html.result c.in_err-html.field-0.0 _ _ c.from_residual-in_err-html.ensures.1 c.in_err-html.ensures.none
    (λ none trace are. none _ (same_page (rows_of (found_of c.args.matches.now)) _ _ _ _ are.schedule schedule are.files files _ are.page))

pub returns-clause-values : goal.returns-clause-values
returns-clause-values c =
    let program = c.in_ok-program.ensures.values in
    let schedule = c.in_ok-schedule.ensures.path ∙ ap Some (sym c.as_str.ensures.value) in
    let files = program.files ∙ ap (λ l. Some (map string_bytes l)) (sym c.deref.ensures.value) in
    record {
      schedule = c.in_ok-schedule.ensures.path;
      any_files = c.is_set.ensures;
      from = c.in_ok-from.ensures.number;
      to = c.in_ok-to.ensures.number;
      only = c.in_ok-only.ensures.numbers;
      form = c.in_ok-form.ensures.form;
      page = same_page (rows_of (found_of c.args.matches.now)) _ _ _ _ schedule c.in_ok-schedule.ensures.path files program.files _ c.in_ok-html.ensures.page;
      summary = c.is_set-2.ensures;
      limits = program.limits;
      main = program.main;
      files = program.files;
      explain = program.explain;
      quiet = program.quiet;
      files_alone = program.files_alone;
    }
