use Rattle.racing_threads.proofs.free_events.Moves.{moves_free}
use Rattle.racing_threads.proofs.free_events.calls_and_returns_are_free.Goals as goal

pub returns : goal.returns
returns c = record { holds = moves_free }
