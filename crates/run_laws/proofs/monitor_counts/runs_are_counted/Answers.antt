use Rattle.run_laws.proofs.monitor_counts.Runs.{runs_counted}
use Rattle.run_laws.proofs.monitor_counts.runs_are_counted.Goals as goal

pub returns : goal.returns
returns c = record { holds = runs_counted }
