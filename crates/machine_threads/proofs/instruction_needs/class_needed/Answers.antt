use Rattle.std.proofs.Common.{sym, subst}
use Rattle.machine_threads.specs.instruction_needs.Needs.{Needs}
use Rattle.machine_threads.proofs.instruction_needs.Needing.{needs}
use Rattle.machine_threads.proofs.instruction_needs.class_needed.Goals as goal

-- src/lib.rt:32:1
pub returns : goal.returns
returns c = subst (Needs c.args.instruction) (sym c.class_in.ensures) (needs c.args.instruction)
