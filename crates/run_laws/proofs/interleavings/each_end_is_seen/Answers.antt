use Rattle.run_laws.proofs.interleavings.Reduction.{each_end_seen}
use Rattle.run_laws.proofs.interleavings.each_end_is_seen.Goals as goal

pub returns : goal.returns
returns c = record { holds = each_end_seen }
