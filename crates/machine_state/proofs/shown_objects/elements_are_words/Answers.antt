use Rattle.machine_state.proofs.shown_objects.Objects.{are_elements}
use Rattle.machine_state.proofs.shown_objects.elements_are_words.Goals as goal

pub returns : goal.returns
returns c = record { holds = are_elements }
