use Rattle.engines.proofs.TheoremLemmas.{records_replay}
use Rattle.engines.proofs.theorem.records_replay.Goals as goal

pub returns : goal.returns
returns c = record { holds = records_replay c.records_replay.ensures.holds }
