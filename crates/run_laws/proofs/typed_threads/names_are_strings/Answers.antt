use Rattle.run_laws.proofs.typed_threads.Objects.{names_are_strings}
use Rattle.run_laws.proofs.typed_threads.names_are_strings.Goals as goal

pub returns : goal.returns
returns c = record { holds = names_are_strings }
