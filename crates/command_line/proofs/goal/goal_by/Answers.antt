use Rattle.std.proofs.Common.{rules}
use Rattle.command_line.proofs.CommandLineLemmas.{refuses}
use Rattle.command_line.proofs.GoalLemmas.{named, none_named, unnamed}
use Rattle.command_line.proofs.goal.goal_by.Goals as goal

pub returns-in-Some-clause-named : goal.returns-in-Some-clause-named
returns-in-Some-clause-named c = named c.args.word.now (search rules) (search rules) c.in-Some.name c.in-Some.value c.in-Some.ensures.cases c.goal_with.result c.goal_with.ensures.named

pub returns-in-Some-clause-none : goal.returns-in-Some-clause-none
returns-in-Some-clause-none c = unnamed c.args.word.now (search rules) (search rules) c.in-Some.name c.in-Some.value c.in-Some.ensures.cases c.goal_with.result c.goal_with.ensures.none

pub returns-in-None-clause-none : goal.returns-in-None-clause-none
returns-in-None-clause-none c =
    refuses c.no_goal.result _ c.no_goal.ensures (none_named c.args.word.now (search rules) (search rules) c.in-None.ensures.cases)
