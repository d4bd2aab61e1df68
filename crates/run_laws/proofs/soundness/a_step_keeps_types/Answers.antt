use Rattle.run_laws.proofs.soundness.Sound.{kept}
use Rattle.run_laws.proofs.soundness.a_step_keeps_types.Goals as goal

pub returns : goal.returns
returns c = record { holds = λ files trees accepted frames state event next h e. kept files trees accepted frames state event next h e }
