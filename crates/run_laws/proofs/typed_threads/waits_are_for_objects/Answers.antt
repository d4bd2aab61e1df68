use Rattle.run_laws.proofs.typed_threads.Threads.{waits_for_objects}
use Rattle.run_laws.proofs.typed_threads.waits_are_for_objects.Goals as goal

pub returns : goal.returns
returns c = record { holds = waits_for_objects }
