use Rattle.waiting_circles.proofs.needs.Tops.{there, nowhere}
use Rattle.waiting_circles.proofs.needs.threads.next_need.Goals as goal

pub returns-in-Some : goal.returns-in-Some
returns-in-Some c =
    there c.args.program.now c.args.shared.now c.in-Some.stack.now c.args.thread c.args.frames c.thread_need.result c.in-Some.ensures c.thread_need.ensures

pub returns-in-None : goal.returns-in-None
returns-in-None c = nowhere c.args.program.now c.args.shared.now c.args.thread c.args.frames c.in-None.ensures
