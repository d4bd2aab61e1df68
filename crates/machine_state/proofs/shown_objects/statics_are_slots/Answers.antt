use Rattle.machine_state.proofs.shown_objects.Objects.{are_statics}
use Rattle.machine_state.proofs.shown_objects.statics_are_slots.Goals as goal

pub returns : goal.returns
returns c = record { holds = are_statics }
