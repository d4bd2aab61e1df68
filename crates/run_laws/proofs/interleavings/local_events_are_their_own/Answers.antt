use Rattle.run_laws.proofs.interleavings.Commuting.{their_own}
use Rattle.run_laws.proofs.interleavings.local_events_are_their_own.Goals as goal

pub returns : goal.returns
returns c = record { holds = their_own }
