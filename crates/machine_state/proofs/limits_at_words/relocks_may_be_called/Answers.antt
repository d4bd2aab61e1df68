use Rattle.machine_state.proofs.limits_at_words.Relocks.{relocks_at_words}
use Rattle.machine_state.proofs.limits_at_words.relocks_may_be_called.Goals as goal

pub returns : goal.returns
returns c = record { holds = relocks_at_words }
