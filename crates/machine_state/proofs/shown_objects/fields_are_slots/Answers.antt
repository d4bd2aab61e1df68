use Rattle.machine_state.proofs.shown_objects.Objects.{are_fields}
use Rattle.machine_state.proofs.shown_objects.fields_are_slots.Goals as goal

pub returns : goal.returns
returns c = record { holds = are_fields }
