use Rattle.run_laws.proofs.searches.Complete.{searches_complete}
use Rattle.run_laws.proofs.searches.searches_are_complete.Goals as goal

pub returns : goal.returns
returns c = record { holds = searches_complete }
