use Rattle.search.proofs.RacyStates.{said_at}
use Rattle.search.proofs.searching.answered.Goals as goal

pub returns-clause-says : goal.returns-clause-says
returns-clause-says c = c.in_ok-verdict.ensures.says

pub returns-clause-race : goal.returns-clause-race
returns-clause-race c =
    said_at c.args.asked.now.linked.now c.args.states.now.limits c.args.states.now c.args.visited.seen.kinds c.args.visited.race c.requires.race
    c.in_ok-verdict.verdict c.in_ok-verdict.ensures.race
