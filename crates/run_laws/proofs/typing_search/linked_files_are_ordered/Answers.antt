use Rattle.run_laws.proofs.typing_search.Linking.{ordered_from}
use Rattle.run_laws.proofs.typing_search.linked_files_are_ordered.Goals as goal

pub returns : goal.returns
returns c = record { holds = λ files linked. ordered_from files linked }
