use Rattle.std.proofs.Common.{refl}
use Rattle.machine_threads.proofs.pending_exceptions.Tops.{empty, frame, class}
use Rattle.machine_threads.proofs.pending_exceptions.pending.pending_event.Goals as goal

-- src/pending.rt:52:1
pub returns-in-Empty : goal.returns-in-Empty
returns-in-Empty c = λ trees bounds inflated state own is. (
  empty c.args.program.now c.args.thread c.args.exception c.args.shared.now c.args.stack.now c.in-Empty.ensures trees bounds inflated state own is,
  record { shared = refl; stack = refl },
)

-- src/pending.rt:52:1
pub returns-in-Invocation : goal.returns-in-Invocation
returns-in-Invocation c =
    frame c.args.program.now c.args.thread c.args.exception c.args.shared.now c.event_in_frame.result c.event_in_frame.new.shared c.event_in_frame.new.stack
    c.args.stack.now c.in-Invocation.ensures c.event_in_frame.ensures

-- src/pending.rt:52:1
pub returns-in-Initialisation : goal.returns-in-Initialisation
returns-in-Initialisation c =
    class c.args.program.now c.args.thread c.args.exception c.args.shared.now c.event_in_class.result c.event_in_class.new.shared c.event_in_class.new.stack
    c.in-Initialisation.class c.in-Initialisation.phase c.args.stack.now c.in-Initialisation.ensures c.event_in_class.ensures
