use Rattle.search_laws.proofs.Schedules.{schedules_whole}
use Rattle.search_laws.proofs.kept_states.searches_by_schedules_are_whole.Goals as goal

pub returns : goal.returns
returns c = record { holds = schedules_whole }
