use Rattle.machine_state.proofs.shown_objects.Objects.{counted}
use Rattle.machine_state.proofs.shown_objects.objects_are_counted.Goals as goal

pub returns : goal.returns
returns c = record { holds = counted }
