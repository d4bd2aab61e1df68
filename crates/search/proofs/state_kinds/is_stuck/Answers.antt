use Rattle.search.proofs.StateKinds.{stuck_if}
use Rattle.search.proofs.state_kinds.is_stuck.Goals as goal

pub returns-in-Some : goal.returns-in-Some
returns-in-Some c = stuck_if c.args.outcome.now c.in-Some.outcome c.in-Some.is c.deref.result.now c.deref.ensures.value c.any_is_stuck.result c.any_is_stuck.ensures
