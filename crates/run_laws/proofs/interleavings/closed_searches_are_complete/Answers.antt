use Rattle.run_laws.proofs.interleavings.Reduction.{search_complete}
use Rattle.run_laws.proofs.interleavings.closed_searches_are_complete.Goals as goal

pub returns : goal.returns
returns c = record { holds = search_complete }
