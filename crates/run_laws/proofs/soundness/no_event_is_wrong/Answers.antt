use Rattle.run_laws.proofs.soundness.Sound.{no_event_wrong}
use Rattle.run_laws.proofs.soundness.no_event_is_wrong.Goals as goal

pub returns : goal.returns
returns c = record { holds = no_event_wrong }
