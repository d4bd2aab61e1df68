use Rattle.run_laws.proofs.monitor_counts.Runs.{runs_longer}
use Rattle.run_laws.proofs.monitor_counts.runs_go_on.Goals as goal

pub returns : goal.returns
returns c = record { holds = runs_longer }
