use Rattle.run_laws.proofs.laws.Order.{local_above}
use Rattle.run_laws.proofs.laws.types_go_up.Goals as goal

pub returns : goal.returns
returns c = record { holds = λ files rooted objects s t v p q. local_above files rooted objects s t v p q }
