use Rattle.next_accesses.proofs.racy_states.Kept.{race_of}
use Rattle.next_accesses.proofs.racy_states.race_among.Goals as goal

pub returns-in-Some : goal.returns-in-Some
returns-in-Some c = race_of c.args.actions.now c.actions.at _ c.actions-test.true c.in-Some.other c.in-Some.ensures
