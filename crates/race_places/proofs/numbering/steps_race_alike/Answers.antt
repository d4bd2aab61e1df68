use Rattle.race_places.proofs.numbering.Renamed.{alike}
use Rattle.race_places.proofs.numbering.steps_race_alike.Goals as goal

pub returns : goal.returns
returns c = record { holds = alike }
