use Rattle.advice.specs.Telling.{TellsMethods}
use Rattle.advice.proofs.site.declarations.Site.push_methods.Given as goal

abbrev pub invariant-loop-number : goal.invariant-loop-number
invariant-loop-number l = TellsMethods l.self.facts.0 l.self.facts.1 l.initial.told.items l.told.items l.self.number l.number
