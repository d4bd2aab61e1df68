use Rattle.run_laws.proofs.typed_threads.Threads.{thread_objects}
use Rattle.run_laws.proofs.typed_threads.thread_objects_are_threads.Goals as goal

pub returns : goal.returns
returns c = record { holds = thread_objects }
