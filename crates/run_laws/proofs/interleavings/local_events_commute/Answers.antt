use Rattle.run_laws.proofs.interleavings.Commuting.{commuting}
use Rattle.run_laws.proofs.interleavings.local_events_commute.Goals as goal

pub returns : goal.returns
returns c = record { holds = commuting }
