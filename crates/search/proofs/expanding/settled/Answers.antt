use Rattle.search.proofs.Schedules.{done_from}
use Rattle.search.proofs.expanding.settled.Goals as goal

pub returns : goal.returns
returns c = done_from c.args.states.now c.args.number c.args.entry c.in_ok-machine.machine c.do_more.new.machine c.in_ok-machine.ensures c.in_ok-do_more.ensures
