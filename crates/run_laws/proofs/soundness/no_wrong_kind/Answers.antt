use Rattle.run_laws.proofs.soundness.Sound.{right}
use Rattle.run_laws.proofs.soundness.no_wrong_kind.Goals as goal

pub returns : goal.returns
returns c = record { holds = λ files trees accepted frames events state e t. right files trees accepted frames events state e t }
