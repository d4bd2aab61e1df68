use Rattle.machine_state.proofs.linked_frames.Moves.{free_done}
use Rattle.machine_state.proofs.linked_frames.free_events_are_done.Goals as goal

pub returns : goal.returns
returns c = record { holds = free_done }
