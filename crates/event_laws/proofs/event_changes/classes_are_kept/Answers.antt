use Rattle.event_laws.proofs.event_changes.Steps.{classes_kept}
use Rattle.event_laws.proofs.event_changes.classes_are_kept.Goals as goal

pub returns : goal.returns
returns c = record { holds = classes_kept }
