use Rattle.run_laws.proofs.typing_search.Searching.{search_ends}
use Rattle.run_laws.proofs.typing_search.a_search_that_ends_is_a_typing.Goals as goal

pub returns : goal.returns
returns c = record { holds = λ files ordered method body. search_ends files ordered.rooted body method }
