use Rattle.run_laws.proofs.object_counts.Bounded.{objects_fit}
use Rattle.run_laws.proofs.object_counts.objects_fit.Goals as goal

pub returns : goal.returns
returns c = record { holds = objects_fit }
