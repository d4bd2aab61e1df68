use Rattle.machine_state.proofs.linked_frames.Frames.{top_shown}
use Rattle.machine_state.proofs.linked_frames.tops_are_shown.Goals as goal

pub returns : goal.returns
returns c = record { holds = top_shown }
