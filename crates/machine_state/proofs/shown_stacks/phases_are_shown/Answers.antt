use Rattle.machine_state.proofs.shown_stacks.Laws.{in_another_phase}
use Rattle.machine_state.proofs.shown_stacks.phases_are_shown.Goals as goal

pub returns : goal.returns
returns c = record { holds = in_another_phase }
