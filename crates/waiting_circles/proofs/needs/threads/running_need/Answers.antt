use Rattle.std.proofs.Common.{None}
use Rattle.waiting_circles.proofs.needs.Tops.{goes_by, goes_on}
use Rattle.waiting_circles.proofs.needs.threads.running_need.Goals as goal

pub returns-in-Some : goal.returns-in-Some
returns-in-Some c = goes_by c.args.program.now c.args.shared.now c.args.stack.now c.args.thread c.args.frames None c.in-Some.field-0 c.in-Some.ensures

pub returns-in-None : goal.returns-in-None
returns-in-None c = goes_on c.args.program.now c.args.shared.now c.args.stack.now c.args.thread c.args.frames c.going_need.result c.in-None.ensures c.going_need.ensures
