use Rattle.machine.specs.Machines.{IsSoFar}
use Rattle.machine.proofs.machine.Machine.repeat.Given as goal

abbrev pub invariant-loop-done : goal.invariant-loop-done
invariant-loop-done l = IsSoFar l.fn.event l.done l.fn.self l.self
