use Rattle.race_places.proofs.named_actions.Alike.{alike}
use Rattle.race_places.proofs.named_actions.names_race_alike.Goals as goal

pub returns : goal.returns
returns c = record { holds = λ names files apart. alike names files apart }
