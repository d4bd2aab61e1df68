use Rattle.search_laws.proofs.Circles.{circles_met}
use Rattle.search_laws.proofs.kept_states.circles_are_met.Goals as goal

pub returns : goal.returns
returns c = record { holds = circles_met }
