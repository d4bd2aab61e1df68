use Rattle.std.proofs.Common.{codes, Some, None}
use Rattle.std.proofs.lemmas.Result.{err_from_is_err_and}
use Rattle.command_line.proofs.CommandLineLemmas.{first_is, refuses_more}
use Rattle.command_line.proofs.GoalLemmas.{nothing_sought, one_sought, none_sought}
use Rattle.command_line.proofs.values.search_goal_of.Goals as goal

pub returns-in-None-clause-goal : goal.returns-in-None-clause-goal
returns-in-None-clause-goal c = nothing_sought _ (first_is c.args.matches.now (codes "for") None c.in-None.ensures)

pub returns-in_ok-search_goal_by-in-Some-clause-goal : goal.returns-in_ok-search_goal_by-in-Some-clause-goal
returns-in_ok-search_goal_by-in-Some-clause-goal c =
    one_sought _ c.in-Some.word.now (first_is c.args.matches.now (codes "for") (Some c.in-Some.word.now) c.in-Some.ensures)
    c.in_ok-search_goal_by-in-Some.field-0 c.in_ok-search_goal_by-in-Some.ensures.named

pub returns-in_err-search_goal_by-in-Some-clause-none : goal.returns-in_err-search_goal_by-in-Some-clause-none
returns-in_err-search_goal_by-in-Some-clause-none c =
    let p = err_from_is_err_and c.from_residual.result c.from_residual.ensures.1 in
    rw (p.1, p.2) (refuses_more c.in_err-search_goal_by-in-Some.field-0.0 _ _
    (none_sought _ c.in-Some.word.now (first_is c.args.matches.now (codes "for") (Some c.in-Some.word.now) c.in-Some.ensures))
    c.in_err-search_goal_by-in-Some.ensures.none)
