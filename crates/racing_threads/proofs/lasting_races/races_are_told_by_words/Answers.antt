use Rattle.racing_threads.proofs.lasting_races.Laws.{races_told}
use Rattle.racing_threads.proofs.lasting_races.races_are_told_by_words.Goals as goal

pub returns : goal.returns
returns c = record { holds = races_told }
