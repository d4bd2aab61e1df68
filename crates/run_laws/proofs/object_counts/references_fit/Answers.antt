use Rattle.run_laws.proofs.object_counts.References.{references_fit}
use Rattle.run_laws.proofs.object_counts.references_fit.Goals as goal

pub returns : goal.returns
returns c = record { holds = references_fit }
