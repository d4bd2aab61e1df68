use Rattle.run_laws.proofs.typing_search.Bounds.{bounded}
use Rattle.run_laws.proofs.typing_search.Deciding.{decided}
use Rattle.run_laws.proofs.typing_search.a_method_is_typed_or_not.Goals as goal

pub returns : goal.returns
returns c =
    record { holds = λ files ordered method body. let b = bounded files method body in decided files ordered method body b.0 b.1 }
