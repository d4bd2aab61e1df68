use Rattle.advice.specs.Told.{Keeps}
use Rattle.advice.proofs.site.code.CodeSite.push_beyond.Given as goal

abbrev pub invariant-loop : goal.invariant-loop
invariant-loop l = Keeps l.initial.told.items l.told.items
