use Rattle.machine_state.proofs.limits_at_words.Limits.{limits_same}
use Rattle.machine_state.proofs.limits_at_words.limits_are_the_same.Goals as goal

pub returns : goal.returns
returns c = record { holds = limits_same }
