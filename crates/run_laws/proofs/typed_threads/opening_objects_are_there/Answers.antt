use Rattle.run_laws.proofs.typed_threads.Objects.{opening_objects_there}
use Rattle.run_laws.proofs.typed_threads.opening_objects_are_there.Goals as goal

pub returns : goal.returns
returns c = record { holds = opening_objects_there }
