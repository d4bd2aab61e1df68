use Rattle.std.proofs.Common.{[]}
use Rattle.machine_instructions.proofs.leaving.Left.{left}
use Rattle.machine_instructions.proofs.leaving.leave_nothing.Goals as goal

pub returns : goal.returns
returns c = left c.args.stack.now c.pop.new.self c.go_on.new.self c.args.count c.next_place-next.result [] c.next_place-next.ensures c.pop.ensures c.go_on.ensures
