use Rattle.search_laws.proofs.SameWords.{alone_stays}
use Rattle.search_laws.proofs.alone.what_is_alone_stays.Goals as goal

pub returns : goal.returns
returns c = record { holds = alone_stays }
