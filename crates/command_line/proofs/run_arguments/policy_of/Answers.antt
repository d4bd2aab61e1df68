use Rattle.std.proofs.Common.{codes, Some, None}
use Rattle.std.proofs.lemmas.Result.{err_from_is_err_and}
use Rattle.command_line.proofs.CommandLineLemmas.{first_is, refuses_more}
use Rattle.command_line.proofs.PolicyLemmas.{none_asked, one_asked, none_fits}
use Rattle.command_line.proofs.run_arguments.policy_of.Goals as goal

pub returns-in-None-clause-policy : goal.returns-in-None-clause-policy
returns-in-None-clause-policy c = none_asked _ (first_is c.args.matches.now (codes "policy") None c.in-None.ensures)

pub returns-in_ok-policy_by-in-Some-clause-policy : goal.returns-in_ok-policy_by-in-Some-clause-policy
returns-in_ok-policy_by-in-Some-clause-policy c =
    one_asked _ c.in-Some.word.now (first_is c.args.matches.now (codes "policy") (Some c.in-Some.word.now) c.in-Some.ensures)
    c.in_ok-policy_by-in-Some.field-0 c.in_ok-policy_by-in-Some.ensures.named

pub returns-in_err-policy_by-in-Some-clause-none : goal.returns-in_err-policy_by-in-Some-clause-none
returns-in_err-policy_by-in-Some-clause-none c =
    let p = err_from_is_err_and c.from_residual.result c.from_residual.ensures.1 in
    rw (p.1, p.2) (refuses_more c.in_err-policy_by-in-Some.field-0.0 _ _
    (none_fits _ c.in-Some.word.now (first_is c.args.matches.now (codes "policy") (Some c.in-Some.word.now) c.in-Some.ensures))
    c.in_err-policy_by-in-Some.ensures.none)
