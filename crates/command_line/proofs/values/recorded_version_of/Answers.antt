use Rattle.std.proofs.Common.{Some, None, codes}
use Rattle.std.proofs.lemmas.Result.{IfOk-weaker, err_from_is_err_and}
use Rattle.clap.specs.Words.{found_of, rows_of}
use Rattle.command_line.proofs.CommandLineLemmas.{a_version, first_is, no_version, refused_more, refuses_more}
use Rattle.command_line.proofs.SweepLemmas.{isnt_there}
use Rattle.command_line.proofs.values.recorded_version_of.Goals as goal

pub returns-in_err-version-clause-none : goal.returns-in_err-version-clause-none
returns-in_err-version-clause-none c =
    let p = err_from_is_err_and c.from_residual.result c.from_residual.ensures.1 in
    rw (p.1, p.2) (refuses_more c.in_err-version.field-0.0 _ _ (λ none version are. none version are.number) c.in_err-version.ensures.none)

pub returns-in-Some-clause-version : goal.returns-in-Some-clause-version
returns-in-Some-clause-version c =
    let is = first_is c.args.matches.now (codes "record") (Some c.in-Some.field-0.now) c.in-Some.ensures in
    record { number = c.in_ok-version.ensures.number; recording = λ none. elim (isnt_there _ c.in-Some.field-0.now is none) [ ] }

pub returns-in-None-clause-version : goal.returns-in-None-clause-version
returns-in-None-clause-version c =
    IfOk-weaker c.no_version.result _ _
    (λ same none. a_version (rows_of (found_of c.args.matches.now)) _ same c.in_ok-version.ensures.number none.0 none.1) c.no_version.ensures.none

pub returns-in-None-clause-none : goal.returns-in-None-clause-none
returns-in-None-clause-none c =
    let none = first_is c.args.matches.now (codes "record") None c.in-None.ensures in
    refused_more c.no_version.result _ _ (no_version (rows_of (found_of c.args.matches.now)) _ c.in_ok-version.ensures.number none) c.no_version.ensures.refused
