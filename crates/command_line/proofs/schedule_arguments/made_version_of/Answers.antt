use Rattle.std.proofs.Common.{◌∙◌, sym}
use Rattle.std.proofs.lemmas.Bool.{true≢false}
use Rattle.std.proofs.lemmas.Result.{IfOk-weaker, err_from_is_err_and}
use Rattle.clap.specs.Words.{found_of, rows_of}
use Rattle.command_line.proofs.CommandLineLemmas.{a_made_version, no_made_version, refused_more, refuses_more}
use Rattle.command_line.proofs.schedule_arguments.made_version_of.Goals as goal

pub returns-in_err-version-clause-none : goal.returns-in_err-version-clause-none
returns-in_err-version-clause-none c =
    let p = err_from_is_err_and c.from_residual.result c.from_residual.ensures.1 in
    rw (p.1, p.2) (refuses_more c.in_err-version.field-0.0 _ _ (λ none version are. none version are.number) c.in_err-version.ensures.none)

pub returns-then-is_set-clause-version : goal.returns-then-is_set-clause-version
returns-then-is_set-clause-version c =
    record { number = c.in_ok-version.ensures.number; writing = λ off. absurd (true≢false (sym c.if-is_set.true ∙ c.is_set.ensures ∙ off)) }

pub returns-else-is_set-clause-version : goal.returns-else-is_set-clause-version
returns-else-is_set-clause-version c =
    IfOk-weaker c.no_version.result _ _
    (λ same none. a_made_version (rows_of (found_of c.args.matches.now)) _ same c.in_ok-version.ensures.number none.0 none.1) c.no_version.ensures.none

pub returns-else-is_set-clause-none : goal.returns-else-is_set-clause-none
returns-else-is_set-clause-none c =
    refused_more c.no_version.result _ _
    (no_made_version (rows_of (found_of c.args.matches.now)) _ c.in_ok-version.ensures.number (sym c.is_set.ensures ∙ c.if-is_set.false)) c.no_version.ensures.refused
