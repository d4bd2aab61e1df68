use Rattle.advice.proofs.TellingLaws.{keeps_both}
use Rattle.advice.proofs.site.code.CodeSite.push_beyond.Goals as goal

pub loop-preserved : goal.loop-preserved
loop-preserved c = keeps_both _ _ _ c.loop.invariant c.in_ok-next.ensures

pub returns-in_default : goal.returns-in_default
returns-in_default c = keeps_both _ _ _ c.loop.invariant c.in_ok-next.ensures
