use Rattle.machine.proofs.thread_standings.Tops.{begins, runs_frame, initialises}
use Rattle.machine.proofs.thread_standings.running.going_standing.Goals as goal

pub returns-in-Empty : goal.returns-in-Empty
returns-in-Empty c =
    begins c.args.program.now c.args.shared.now c.args.thread c.args.frames c.begin_standing.result c.args.stack.now c.in-Empty.ensures c.begin_standing.ensures

pub returns-in-Invocation : goal.returns-in-Invocation
returns-in-Invocation c =
    runs_frame c.args.program.now c.args.shared.now c.args.thread c.args.frames c.frame_standing.result c.requires.runs c.requires.goes_on c.args.stack.now
    c.in-Invocation.ensures c.frame_standing.ensures

pub returns-in-Initialisation : goal.returns-in-Initialisation
returns-in-Initialisation c =
    initialises c.args.program.now c.args.shared.now c.args.thread c.args.frames c.initialisation_standing.result c.in-Initialisation.class c.in-Initialisation.phase
    c.args.stack.now c.in-Initialisation.ensures c.initialisation_standing.ensures
