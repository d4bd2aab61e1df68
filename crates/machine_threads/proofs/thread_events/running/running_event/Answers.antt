use Rattle.machine_threads.proofs.thread_events.Tops.{has_frame, begins, runs_frame, initialises}
use Rattle.machine_threads.proofs.thread_events.running.running_event.Goals as goal

-- src/running.rt:32:28
pub instruction_event-requires-clause-able : goal.instruction_event-requires-clause-able
instruction_event-requires-clause-able c =
    has_frame c.args.program.now c.args.thread c.args.shared.now c.requires.runs c.requires.goes_on c.args.stack.now c.in-Invocation.ensures c.requires.able

-- src/running.rt:16:1
pub returns-in-Empty : goal.returns-in-Empty
returns-in-Empty c =
    begins c.args.program.now (record { thread = c.args.thread; pick = c.args.pick }) c.args.frames c.args.shared.now c.begin.result c.begin.new.shared c.begin.new.stack
    c.args.stack.now c.in-Empty.ensures c.begin.ensures

-- src/running.rt:16:1
pub returns-in-Invocation : goal.returns-in-Invocation
returns-in-Invocation c =
    runs_frame c.args.program.now (record { thread = c.args.thread; pick = c.args.pick }) c.args.frames c.args.shared.now c.instruction_event.result
    c.instruction_event.new.shared c.instruction_event.new.stack c.requires.runs c.requires.goes_on c.args.stack.now c.in-Invocation.ensures c.instruction_event.ensures

-- src/running.rt:16:1
pub returns-in-Initialisation : goal.returns-in-Initialisation
returns-in-Initialisation c =
    initialises c.args.program.now (record { thread = c.args.thread; pick = c.args.pick }) c.args.frames c.args.shared.now c.initialisation.result
    c.initialisation.new.shared c.initialisation.new.stack c.in-Initialisation.class c.in-Initialisation.phase c.args.stack.now c.in-Initialisation.ensures
    c.initialisation.ensures
