use Rattle.machine_state.proofs.limits_at_words.Limits.{runs_longer_at_words}
use Rattle.machine_state.proofs.limits_at_words.runs_go_on_at_words.Goals as goal

pub returns : goal.returns
returns c = record { holds = runs_longer_at_words }
