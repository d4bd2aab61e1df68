use Rattle.run_laws.proofs.monitor_counts.CountedSteps.{counts_kept}
use Rattle.run_laws.proofs.monitor_counts.counts_are_kept.Goals as goal

pub returns : goal.returns
returns c = record { holds = counts_kept }
