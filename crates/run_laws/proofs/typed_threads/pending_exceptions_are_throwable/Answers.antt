use Rattle.run_laws.proofs.typed_threads.Threads.{pending_throwable}
use Rattle.run_laws.proofs.typed_threads.pending_exceptions_are_throwable.Goals as goal

pub returns : goal.returns
returns c = record { holds = pending_throwable }
