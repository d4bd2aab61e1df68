use Rattle.machine.proofs.thread_standings.Tops.{goes_by, goes_on}
use Rattle.machine.proofs.thread_standings.running.running_standing.Goals as goal

pub returns-in-Some : goal.returns-in-Some
returns-in-Some c =
    goes_by c.args.program.now c.args.shared.now c.args.stack.now c.args.thread c.args.frames c.in-Some.field-0 c.pending_standing.result c.in-Some.ensures c.pending_standing.ensures

pub returns-in-None : goal.returns-in-None
returns-in-None c =
    goes_on c.args.program.now c.args.shared.now c.args.stack.now c.args.thread c.args.frames c.going_standing.result c.in-None.ensures c.going_standing.ensures
