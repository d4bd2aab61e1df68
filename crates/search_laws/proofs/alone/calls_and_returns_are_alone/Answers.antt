use Rattle.search_laws.proofs.Moves.{moves_alone}
use Rattle.search_laws.proofs.alone.calls_and_returns_are_alone.Goals as goal

pub returns : goal.returns
returns c = record { holds = moves_alone }
