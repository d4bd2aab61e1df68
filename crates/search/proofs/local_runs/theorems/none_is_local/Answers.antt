use Rattle.search.proofs.local_runs.Frames.{none_local}
use Rattle.search.proofs.local_runs.theorems.none_is_local.Goals as goal

pub returns : goal.returns
returns c = record { holds = none_local }
