use Rattle.run_laws.proofs.typing_search.Bounds.{bounded}
use Rattle.run_laws.proofs.typing_search.types_of_a_method_are_limited.Goals as goal

pub returns : goal.returns
returns c = record { holds = λ files method body. bounded files method body }
