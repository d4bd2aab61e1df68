use Rattle.race_laws.proofs.racy_states.Bridge.{racy_states_race}
use Rattle.race_laws.proofs.racy_states.racy_states_have_races.Goals as goal

pub returns : goal.returns
returns c = record { holds = racy_states_race }
