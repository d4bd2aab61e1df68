use Rattle.machine_state.proofs.linked_frames.Frames.{finds}
use Rattle.machine_state.proofs.linked_frames.operands_are_there.Goals as goal

pub returns : goal.returns
returns c = record { holds = finds }
