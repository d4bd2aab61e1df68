use Rattle.machine_state.proofs.same_states.Told.{words_told}
use Rattle.machine_state.proofs.same_states.words_are_told.Goals as goal

pub returns : goal.returns
returns c = record { holds = words_told }
