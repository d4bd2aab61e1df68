use Rattle.machine_state.proofs.limits_at_words.FatLocks.{flags_kept}
use Rattle.machine_state.proofs.limits_at_words.flags_are_kept.Goals as goal

pub returns : goal.returns
returns c = record { holds = flags_kept }
