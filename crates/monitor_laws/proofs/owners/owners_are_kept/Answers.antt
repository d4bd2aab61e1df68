use Rattle.monitor_laws.proofs.owners.Steps.{owners_kept}
use Rattle.monitor_laws.proofs.owners.owners_are_kept.Goals as goal

pub returns : goal.returns
returns c = record { holds = owners_kept }
