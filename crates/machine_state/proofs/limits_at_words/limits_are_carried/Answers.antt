use Rattle.machine_state.proofs.limits_at_words.Limits.{limits_carried}
use Rattle.machine_state.proofs.limits_at_words.limits_are_carried.Goals as goal

pub returns : goal.returns
returns c = record { holds = limits_carried }
