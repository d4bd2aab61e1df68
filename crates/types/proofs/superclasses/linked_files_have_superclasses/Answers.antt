use Rattle.types.proofs.Linking.{superclasses_found}
use Rattle.types.proofs.superclasses.linked_files_have_superclasses.Goals as goal

pub returns : goal.returns
returns c = record { holds = λ files linked. superclasses_found files linked }
