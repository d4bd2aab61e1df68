use Rattle.std.proofs.Common.{arith}
use Rattle.thread_stacks.specs.Stacks.{shown_frame}
use Rattle.machine_instructions.proofs.monitor_instructions.Going.{goes_on_by, stays_by}
use Rattle.machine_instructions.proofs.monitor_instructions.frames.go_on.Goals as goal

pub returns-in-Some : goal.returns-in-Some
returns-in-Some c =
    goes_on_by c.args.stack.now c.pop.new.self c.go_on.new.self (shown_frame c.in-Some.frame) c.saturating_add-next.result c.in-Some.ensures
    (λ small. omega (arith, small, c.saturating_add-next.ensures)) c.pop.ensures c.go_on.ensures

pub returns-in_default : goal.returns-in_default
returns-in_default c = stays_by c.args.stack.now c.in_default.ensures
