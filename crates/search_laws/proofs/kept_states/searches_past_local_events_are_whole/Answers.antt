use Rattle.search_laws.proofs.OwnEvents.{searches_whole}
use Rattle.search_laws.proofs.kept_states.searches_past_local_events_are_whole.Goals as goal

pub returns : goal.returns
returns c = record { holds = searches_whole }
