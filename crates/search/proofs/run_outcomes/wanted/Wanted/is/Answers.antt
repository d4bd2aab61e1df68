use Rattle.search.proofs.run_outcomes.Places.{stuck_told, thrown_told}
use Rattle.search.proofs.run_outcomes.wanted.Wanted.is.Goals as goal

pub returns-in-Stuck : goal.returns-in-Stuck
returns-in-Stuck c = stuck_told c.args.self.now c.in-Stuck.is c.args.outcome.now c.deref.result.now c.deref.ensures.value c.any_is_stuck.result c.any_is_stuck.ensures

pub returns-in-Uncaught : goal.returns-in-Uncaught
returns-in-Uncaught c =
    thrown_told c.args.self.now c.in-Uncaught.is c.args.outcome.now c.deref-in-Uncaught.result.now c.deref-in-Uncaught.ensures.value c.any_has_thrown.result c.any_has_thrown.ensures
