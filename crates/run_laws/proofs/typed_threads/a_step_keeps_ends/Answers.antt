use Rattle.run_laws.proofs.typed_threads.EndsAtWords.{ends_kept}
use Rattle.run_laws.proofs.typed_threads.a_step_keeps_ends.Goals as goal

pub returns : goal.returns
returns c = record { holds = ends_kept }
