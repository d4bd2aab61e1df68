use Rattle.std.proofs.Common.{[]}
use Rattle.machine_instructions.proofs.thread_methods.Moved.{went}
use Rattle.machine_instructions.proofs.thread_methods.moves.go_on.Goals as goal

pub returns : goal.returns
returns c = went c.args.stack.now c.pop.new.self c.go_on.new.self c.args.operands c.args.next [] c.pop.ensures c.go_on.ensures
