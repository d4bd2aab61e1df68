use Rattle.std.proofs.Common.{[]}
use Rattle.machine_threads.proofs.thread_begins.threads.begin_started.Goals as goal

pub returns-in-Ok : goal.returns-in-Ok
returns-in-Ok c = λ trees bounds inflated state program lent.
    c.apply.ensures trees bounds inflated state.world c.args.shared.now program lent.represents c.args.stack.now [] lent.shows_stack _ c.begin_run.new.stack
    (c.in-Ok.ensures trees bounds inflated state program lent)
