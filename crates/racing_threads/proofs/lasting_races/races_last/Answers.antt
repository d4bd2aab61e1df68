use Rattle.racing_threads.proofs.lasting_races.Laws.{races_last}
use Rattle.racing_threads.proofs.lasting_races.races_last.Goals as goal

pub returns : goal.returns
returns c = record { holds = races_last }
