use Rattle.machine_state.proofs.linked_frames.Moves.{moved}
use Rattle.machine_state.proofs.linked_frames.moves_are_shown.Goals as goal

pub returns : goal.returns
returns c = record { holds = moved }
