use Rattle.std.proofs.Common.{◌∙◌, sym}
use Rattle.std.proofs.lemmas.Bool.{true≢false}
use Rattle.std.proofs.lemmas.Result.{err_from_is_err_and}
use Rattle.clap.specs.Words.{found_of, rows_of}
use Rattle.command_line.proofs.CommandLineLemmas.{refuses_more}
use Rattle.command_line.proofs.CommandNames.{only_schedule}
use Rattle.command_line.proofs.schedule_arguments.listed_of.Goals as goal

pub returns-in_err-places_of-clause-none : goal.returns-in_err-places_of-clause-none
returns-in_err-places_of-clause-none c =
    let p = err_from_is_err_and c.from_residual.result c.from_residual.ensures.1 in
    rw (p.1, p.2)
    (refuses_more c.in_err-places_of.field-0.0 _ _
    (λ none. only_schedule (rows_of (found_of c.args.matches.now)) (λ schedule are. true≢false (sym c.if-is_set.true ∙ c.is_set.ensures ∙ are.no_places)) none)
    c.in_err-places_of.ensures.none)

pub returns-in_err-schedule_of-clause-none : goal.returns-in_err-schedule_of-clause-none
returns-in_err-schedule_of-clause-none c =
    let p = err_from_is_err_and c.from_residual-in_err-schedule_of.result c.from_residual-in_err-schedule_of.ensures.1 in
    rw (p.1, p.2)
    (refuses_more c.in_err-schedule_of.field-0.0 _ _
    (λ none. only_schedule (rows_of (found_of c.args.matches.now)) none (λ places are. true≢false (sym are.with_places ∙ sym c.is_set.ensures ∙ c.if-is_set.false)))
    c.in_err-schedule_of.ensures.none)
