use Rattle.machine_state.proofs.shown_stacks.Laws.{counted}
use Rattle.machine_state.proofs.shown_stacks.frames_are_counted.Goals as goal

pub returns : goal.returns
returns c = record { holds = counted }
