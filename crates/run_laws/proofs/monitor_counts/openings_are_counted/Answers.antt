use Rattle.run_laws.proofs.monitor_counts.Runs.{openings_counted}
use Rattle.run_laws.proofs.monitor_counts.openings_are_counted.Goals as goal

pub returns : goal.returns
returns c = record { holds = openings_counted }
