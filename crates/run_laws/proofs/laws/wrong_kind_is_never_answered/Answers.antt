use Rattle.run_laws.proofs.laws.Answered.{never_wrong}
use Rattle.run_laws.proofs.laws.wrong_kind_is_never_answered.Goals as goal

pub returns : goal.returns
returns c = record { holds = λ files rooted main frames state event h. never_wrong files rooted main frames state event h }
