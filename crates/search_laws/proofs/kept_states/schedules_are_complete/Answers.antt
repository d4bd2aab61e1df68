use Rattle.search_laws.proofs.Schedules.{schedules_complete}
use Rattle.search_laws.proofs.kept_states.schedules_are_complete.Goals as goal

pub returns : goal.returns
returns c = record { holds = schedules_complete }
