use Rattle.run_laws.proofs.typed_threads.Threads.{tables_counted}
use Rattle.run_laws.proofs.typed_threads.tables_are_counted.Goals as goal

pub returns : goal.returns
returns c = record { holds = tables_counted }
