use Rattle.search.proofs.run_outcomes.LineLaws.{ended_first, ended_later}
use Rattle.search.proofs.run_outcomes.lines.compare_ended.Goals as goal

pub returns-in-true-false : goal.returns-in-true-false
returns-in-true-false c = ended_first c.args.one.now c.args.other.now c.in-true-false.ensures c.in-true-false.ensures'

pub returns-in-false-default : goal.returns-in-false-default
returns-in-false-default c = ended_later c.args.one.now c.args.other.now c.requires c.in-false-default.ensures
