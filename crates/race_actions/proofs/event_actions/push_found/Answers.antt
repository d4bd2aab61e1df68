use Rattle.race_actions.proofs.event_actions.Adding.{found_added}
use Rattle.race_actions.proofs.event_actions.push_found.Goals as goal

pub returns : goal.returns
returns c = found_added _ _ _ _ _ _ _ c.in_ok-push.ensures c.in_ok-push-2.ensures c.in_ok-push-3.ensures
