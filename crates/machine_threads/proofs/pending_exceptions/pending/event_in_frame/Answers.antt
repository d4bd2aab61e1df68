use Rattle.machine_threads.proofs.pending_exceptions.Caught.{goes_on, ends}
use Rattle.machine_threads.proofs.pending_exceptions.pending.event_in_frame.Goals as goal

-- src/pending.rt:15:1
pub returns-in-Some : goal.returns-in-Some
returns-in-Some c = λ trees bounds inflated state frame rest is.
    goes_on trees c.args.program.now bounds inflated c.args.thread c.args.exception c.args.shared.now c.args.stack.now state frame rest is
    c.catch_in.result c.catch_in.new.shared c.catch_in.new.stack c.in-Some.handler c.in-Some.ensures c.catch_in.ensures

-- src/pending.rt:15:1
pub returns-in-None : goal.returns-in-None
returns-in-None c = λ trees bounds inflated state frame rest is.
    ends trees c.args.program.now bounds inflated c.args.thread c.args.exception c.args.shared.now c.args.stack.now state frame rest is
    c.unwind.result c.unwind.new.shared c.unwind.new.stack c.in-None.ensures c.unwind.ensures
