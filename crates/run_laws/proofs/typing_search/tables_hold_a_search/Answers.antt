use Rattle.run_laws.proofs.typing_search.Merging.{are_tables}
use Rattle.run_laws.proofs.typing_search.tables_hold_a_search.Goals as goal

pub returns : goal.returns
returns c = record { holds = are_tables }
