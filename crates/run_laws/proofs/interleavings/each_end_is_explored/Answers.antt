use Rattle.run_laws.proofs.interleavings.Reduction.{each_end_explored}
use Rattle.run_laws.proofs.interleavings.each_end_is_explored.Goals as goal

pub returns : goal.returns
returns c = record { holds = each_end_explored }
