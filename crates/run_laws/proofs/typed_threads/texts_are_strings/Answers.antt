use Rattle.run_laws.proofs.typed_threads.Objects.{texts_are_strings}
use Rattle.run_laws.proofs.typed_threads.texts_are_strings.Goals as goal

pub returns : goal.returns
returns c = record { holds = texts_are_strings }
