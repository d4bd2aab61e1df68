use Rattle.event_laws.proofs.event_changes.Steps.{threads_added}
use Rattle.event_laws.proofs.event_changes.threads_are_added.Goals as goal

pub returns : goal.returns
returns c = record { holds = threads_added }
