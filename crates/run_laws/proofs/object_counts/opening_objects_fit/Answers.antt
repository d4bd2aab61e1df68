use Rattle.run_laws.proofs.object_counts.Bounded.{openings_fit}
use Rattle.run_laws.proofs.object_counts.opening_objects_fit.Goals as goal

pub returns : goal.returns
returns c = record { holds = openings_fit }
