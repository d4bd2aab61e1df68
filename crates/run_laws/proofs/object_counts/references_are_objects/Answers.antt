use Rattle.run_laws.proofs.object_counts.References.{are_objects}
use Rattle.run_laws.proofs.object_counts.references_are_objects.Goals as goal

pub returns : goal.returns
returns c = record { holds = are_objects }
