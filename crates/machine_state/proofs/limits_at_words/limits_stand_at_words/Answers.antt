use Rattle.machine_state.proofs.limits_at_words.Limits.{limits_standing}
use Rattle.machine_state.proofs.limits_at_words.limits_stand_at_words.Goals as goal

pub returns : goal.returns
returns c = record { holds = limits_standing }
