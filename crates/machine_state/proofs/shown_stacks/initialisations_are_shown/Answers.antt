use Rattle.machine_state.proofs.shown_stacks.Laws.{initialisation}
use Rattle.machine_state.proofs.shown_stacks.initialisations_are_shown.Goals as goal

pub returns : goal.returns
returns c = record { holds = initialisation }
