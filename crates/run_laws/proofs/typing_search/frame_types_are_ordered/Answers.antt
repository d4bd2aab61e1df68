use Rattle.run_laws.proofs.typing_search.Orders.{frame_self, frame_trans}
use Rattle.run_laws.proofs.typing_search.frame_types_are_ordered.Goals as goal

pub returns : goal.returns
returns c = record { holds = λ files rooted. record { reflexive = frame_self files; transitive = frame_trans files rooted } }
