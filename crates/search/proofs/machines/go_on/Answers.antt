use Rattle.std.proofs.Common.{subst}
use Rattle.search.specs.Machines.{GoesBy}
use Rattle.search.proofs.Shown.{goes_by, stops}
use Rattle.search.proofs.machines.go_on.Goals as goal

pub returns-in-Ok : goal.returns-in-Ok
returns-in-Ok c =
    subst (λ r. GoesBy r c.args.event c.args.machine.now c.step.new.self) c.in-Ok.is
    (goes_by c.runs_go_on.ensures.holds c.step.result c.args.event c.args.machine.now c.step.new.self c.step.ensures)

pub returns-in_ok-unless_memory-in-Err : goal.returns-in_ok-unless_memory-in-Err
returns-in_ok-unless_memory-in-Err c =
    stops c.in-Err.refusal c.args.event c.args.machine.now c.step.new.self c.in_ok-unless_memory-in-Err.ensures
    (subst (λ r. GoesBy r c.args.event c.args.machine.now c.step.new.self) c.in-Err.is
    (goes_by c.runs_go_on.ensures.holds c.step.result c.args.event c.args.machine.now c.step.new.self c.step.ensures))
