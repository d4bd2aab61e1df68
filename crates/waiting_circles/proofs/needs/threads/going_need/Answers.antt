use Rattle.waiting_circles.proofs.needs.Tops.{begins, runs_frame, initialises}
use Rattle.waiting_circles.proofs.needs.threads.going_need.Goals as goal

pub returns-in-Empty : goal.returns-in-Empty
returns-in-Empty c =
    begins c.args.program.now c.args.shared.now c.args.thread c.args.frames c.begin_need.result c.args.stack.now c.in-Empty.ensures c.begin_need.ensures

pub returns-in-Invocation : goal.returns-in-Invocation
returns-in-Invocation c =
    runs_frame c.args.program.now c.args.shared.now c.args.thread c.args.frames c.frame_on_top_need.result c.requires.runs c.requires.goes_on c.args.stack.now
    c.in-Invocation.ensures c.frame_on_top_need.ensures

pub returns-in-Initialisation : goal.returns-in-Initialisation
returns-in-Initialisation c =
    initialises c.args.program.now c.args.shared.now c.args.thread c.args.frames c.initialisation_need.result c.in-Initialisation.class c.in-Initialisation.phase
    c.args.stack.now c.in-Initialisation.ensures c.initialisation_need.ensures
