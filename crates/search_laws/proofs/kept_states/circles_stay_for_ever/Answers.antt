use Rattle.search_laws.proofs.Circles.{circles_for_ever}
use Rattle.search_laws.proofs.kept_states.circles_stay_for_ever.Goals as goal

pub returns : goal.returns
returns c = record { holds = circles_for_ever }
