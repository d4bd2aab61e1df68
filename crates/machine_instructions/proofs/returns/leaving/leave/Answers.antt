use Rattle.machine_instructions.proofs.returns.Exits.{left}
use Rattle.machine_instructions.proofs.returns.leaving.leave.Goals as goal

-- src/leaving.rt:35:1
pub returns-in-Some : goal.returns-in-Some
returns-in-Some c = left c.args.shared.now c.exit.new.heap c.args.thread c.in-Some.object c.args.entered c.in-Some.is c.exit.ensures.after
