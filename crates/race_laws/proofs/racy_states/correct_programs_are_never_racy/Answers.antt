use Rattle.std.proofs.Common.{◌++◌}
use Rattle.race_laws.proofs.racy_states.Bridge.{racy_states_race}
use Rattle.race_laws.proofs.racy_states.correct_programs_are_never_racy.Goals as goal

pub returns : goal.returns
returns c =
    record {
      holds = λ files frames correct events state reached racy. let g = racy_states_race files frames events state reached racy in correct (events ++ g.0) g.1;
    }
