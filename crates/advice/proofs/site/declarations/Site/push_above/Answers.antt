use Rattle.advice.proofs.TellingLaws.{keeps_both}
use Rattle.advice.proofs.site.declarations.Site.push_above.Goals as goal

pub loop-place-preserved : goal.loop-place-preserved
loop-place-preserved c = keeps_both _ _ _ c.loop-place.invariant c.in_ok-push_lacking.ensures
