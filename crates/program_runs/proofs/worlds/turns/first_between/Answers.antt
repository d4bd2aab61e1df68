use Rattle.std.proofs.Common.{subst, arith}
use Rattle.program_runs.specs.worlds.Turns.{MayStep}
use Rattle.program_runs.proofs.worlds.Finding.{one_more, none_to}
use Rattle.program_runs.proofs.worlds.turns.first_between.Goals as goal

pub threads-preserved : goal.threads-preserved
threads-preserved c = (
  omega (arith, c.threads.invariant.0),
  one_more c.args.machine.now c.args.from c.threads.thread c.threads.invariant.1 (subst (MayStep c.args.machine.now c.threads.thread) c.if-may.false c.may.ensures),
)

pub returns : goal.returns
returns c = none_to c.args.machine.now c.args.from c.threads.thread c.args.to c.threads.invariant.1 (omega (arith, c.threads-test.false))
