use Rattle.state_actions.proofs.meant_before.Saying.{meanings_said}
use Rattle.state_actions.proofs.meant_before.instructions_mean.Goals as goal

pub returns : goal.returns
returns c = record { holds = meanings_said }
