use Rattle.run_laws.proofs.interleavings.Commuting.{others_left_alone}
use Rattle.run_laws.proofs.interleavings.others_are_left_alone.Goals as goal

pub returns : goal.returns
returns c = record { holds = others_left_alone }
