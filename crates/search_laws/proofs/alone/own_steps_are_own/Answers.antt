use Rattle.search_laws.proofs.OwnSteps.{own_steps_own}
use Rattle.search_laws.proofs.alone.own_steps_are_own.Goals as goal

pub returns : goal.returns
returns c = record { holds = own_steps_own }
