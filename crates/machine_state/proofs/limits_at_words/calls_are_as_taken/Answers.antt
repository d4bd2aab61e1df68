use Rattle.machine_state.proofs.limits_at_words.FatLocks.{calls_taken}
use Rattle.machine_state.proofs.limits_at_words.calls_are_as_taken.Goals as goal

pub returns : goal.returns
returns c = record { holds = calls_taken }
