use Rattle.search.proofs.Behind.{past}
use Rattle.search.proofs.machines.go_past.Goals as goal

pub returns : goal.returns
returns c = past c.args.event c.in_ok-behind.behind c.args.machine.now c.go_behind.new.machine c.in_ok-behind.ensures.alone
