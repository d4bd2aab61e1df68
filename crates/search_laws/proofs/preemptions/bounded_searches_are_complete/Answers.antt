use Rattle.search_laws.proofs.Bounded.{bounded_searches_complete}
use Rattle.search_laws.proofs.preemptions.bounded_searches_are_complete.Goals as goal

pub returns : goal.returns
returns c = record { holds = bounded_searches_complete }
