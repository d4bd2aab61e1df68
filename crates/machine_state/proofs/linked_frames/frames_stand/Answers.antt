use Rattle.machine_state.proofs.linked_frames.Frames.{stand}
use Rattle.machine_state.proofs.linked_frames.frames_stand.Goals as goal

pub returns : goal.returns
returns c = record { holds = stand c.places_are_filled.ensures.holds c.places_are_next.ensures.holds c.methods_are_read.ensures.holds }
