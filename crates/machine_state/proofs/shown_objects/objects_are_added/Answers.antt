use Rattle.machine_state.proofs.shown_objects.Objects.{added}
use Rattle.machine_state.proofs.shown_objects.objects_are_added.Goals as goal

pub returns : goal.returns
returns c = record { holds = added }
