use Rattle.run_laws.proofs.typed_threads.EndsAtWords.{opening_ends}
use Rattle.run_laws.proofs.typed_threads.no_thread_has_ended_at_the_opening.Goals as goal

pub returns : goal.returns
returns c = record { holds = opening_ends }
