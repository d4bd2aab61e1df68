use Rattle.run_laws.proofs.laws.Progress.{well_typed_right}
use Rattle.run_laws.proofs.laws.well_typed_is_right.Goals as goal

pub returns : goal.returns
returns c = record { holds = λ files rooted state h t. well_typed_right files rooted state h t }
