use Rattle.event_laws.proofs.event_changes.Steps.{ends_wake}
use Rattle.event_laws.proofs.event_changes.ends_wake_waiters.Goals as goal

pub returns : goal.returns
returns c = record { holds = ends_wake }
