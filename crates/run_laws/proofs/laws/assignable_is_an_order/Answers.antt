use Rattle.run_laws.proofs.laws.Order.{assignable_self, assignable_trans}
use Rattle.run_laws.proofs.laws.assignable_is_an_order.Goals as goal

pub returns : goal.returns
returns c = record { holds = λ files rooted. record { reflexive = assignable_self files; transitive = assignable_trans files rooted } }
