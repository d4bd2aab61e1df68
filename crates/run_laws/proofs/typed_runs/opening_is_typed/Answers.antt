use Rattle.run_laws.proofs.typed_runs.Opened.{opening_typed}
use Rattle.run_laws.proofs.typed_runs.opening_is_typed.Goals as goal

pub returns : goal.returns
returns c = record { holds = λ files. opening_typed files }
