use Rattle.run_laws.proofs.object_counts.CountedSteps.{objects_counted}
use Rattle.run_laws.proofs.object_counts.objects_are_counted.Goals as goal

pub returns : goal.returns
returns c = record { holds = objects_counted }
