use Rattle.std.proofs.Common.{[]}
use Rattle.machine_threads.proofs.thread_begins.initial.call_first.Goals as goal

pub returns-in-Ok : goal.returns-in-Ok
returns-in-Ok c = λ trees bounds inflated world program s shows method body is.
    c.apply.ensures trees bounds inflated world c.args.shared.now program s.represents c.args.stack.now [] shows _ c.push_first.new.stack
    (c.in-Ok.ensures trees c.args.program.now bounds inflated world s shows method body is)
