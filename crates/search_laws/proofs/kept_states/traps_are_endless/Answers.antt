use Rattle.search_laws.proofs.Verdicts.{traps_endless}
use Rattle.search_laws.proofs.kept_states.traps_are_endless.Goals as goal

pub returns : goal.returns
returns c = record { holds = traps_endless }
