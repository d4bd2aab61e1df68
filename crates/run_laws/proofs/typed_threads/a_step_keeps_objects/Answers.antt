use Rattle.run_laws.proofs.typed_threads.Steps.{objects_kept}
use Rattle.run_laws.proofs.typed_threads.a_step_keeps_objects.Goals as goal

pub returns : goal.returns
returns c = record { holds = objects_kept }
