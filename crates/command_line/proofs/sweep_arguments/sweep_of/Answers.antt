use Rattle.std.proofs.Common.{Some, None, codes}
use Rattle.std.proofs.lemmas.Result.{err_from_is_err_and}
use Rattle.clap.specs.Words.{found_of, rows_of}
use Rattle.command_line.proofs.CommandLineLemmas.{first_is, refuses_more}
use Rattle.command_line.proofs.SweepLemmas.{a_goal, a_sweep, no_sweep, none_of_word}
use Rattle.command_line.proofs.sweep_arguments.sweep_of.Goals as goal

pub returns-in_err-sweep_by-in-Some-clause-none : goal.returns-in_err-sweep_by-in-Some-clause-none
returns-in_err-sweep_by-in-Some-clause-none c =
    let p = err_from_is_err_and c.from_residual.result c.from_residual.ensures.1 in
    let is = first_is c.args.matches.now (codes "seeds") (Some c.in-Some.word.now) c.in-Some.ensures in
    rw (p.1, p.2)
    (refuses_more c.in_err-sweep_by-in-Some.field-0.0 _ _ (none_of_word (rows_of (found_of c.args.matches.now)) _ c.in-Some.word.now is) c.in_err-sweep_by-in-Some.ensures.none)

pub returns-in_err-check_beside-in-None-clause-none : goal.returns-in_err-check_beside-in-None-clause-none
returns-in_err-check_beside-in-None-clause-none c =
    let p = err_from_is_err_and c.from_residual-in_err-check_beside-in-None.result c.from_residual-in_err-check_beside-in-None.ensures.1 in
    let is = first_is c.args.matches.now (codes "seeds") None c.in-None.ensures in
    rw (p.1, p.2)
    (refuses_more c.in_err-check_beside-in-None.field-0.0 _ _ (a_goal (rows_of (found_of c.args.matches.now)) _ is) c.in_err-check_beside-in-None.ensures.none)

pub returns-in_ok-sweep_by-in-Some-clause-sweep : goal.returns-in_ok-sweep_by-in-Some-clause-sweep
returns-in_ok-sweep_by-in-Some-clause-sweep c =
    a_sweep (rows_of (found_of c.args.matches.now)) _ c.in-Some.word.now (first_is c.args.matches.now (codes "seeds") (Some c.in-Some.word.now) c.in-Some.ensures)
    c.in_ok-sweep_by-in-Some.field-0 c.in_ok-sweep_by-in-Some.ensures.sweep

pub returns-in_ok-check_beside-in-None-clause-sweep : goal.returns-in_ok-check_beside-in-None-clause-sweep
returns-in_ok-check_beside-in-None-clause-sweep c =
    no_sweep (rows_of (found_of c.args.matches.now)) _ (first_is c.args.matches.now (codes "seeds") None c.in-None.ensures) c.in_ok-check_beside-in-None.ensures.ok
