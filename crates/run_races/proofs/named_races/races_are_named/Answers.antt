use Rattle.run_races.proofs.named_races.Alike.{races_named}
use Rattle.run_races.proofs.named_races.races_are_named.Goals as goal

pub returns : goal.returns
returns c = record { holds = λ trees frames events apart run are told. races_named trees frames events apart run are told }
