use Rattle.std.proofs.Common.{arith, subst}
use Rattle.machine.specs.Tops.{CopiesTop}
use Rattle.program_runs.proofs.worlds.Copying.{one_more, none_to}
use Rattle.program_runs.proofs.worlds.commits.first_copy.Goals as goal

pub threads-preserved : goal.threads-preserved
threads-preserved c = (
  omega (arith, c.threads.invariant.0),
  one_more c.args.machine.now c.args.from c.threads.thread c.threads.invariant.1 (subst (CopiesTop c.args.machine.now c.threads.thread) c.in_default.is c.in_ok-burst.ensures),
)

pub returns : goal.returns
returns c = none_to c.args.machine.now c.args.from c.threads.thread c.args.to c.threads.invariant.1 c.threads-test.false
