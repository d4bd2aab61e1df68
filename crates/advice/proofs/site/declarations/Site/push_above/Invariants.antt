use Rattle.advice.specs.Told.{Keeps}
use Rattle.advice.proofs.site.declarations.Site.push_above.Given as goal

abbrev pub invariant-loop-place : goal.invariant-loop-place
invariant-loop-place l = Keeps l.initial.told.items l.told.items
