use Rattle.advice.specs.Wrong.{is_wrong_at}
use Rattle.advice.specs.declared.told.ToldPlace.TheVariants as places
use Rattle.advice.proofs.TellingLaws.{TellsBelow}
use Rattle.advice.proofs.site.declarations.Site.push_fields.Given as goal

abbrev pub invariant-loop-number : goal.invariant-loop-number
invariant-loop-number l =
    TellsBelow l.initial.told.items l.told.items l.self.number (λ k. places.Field k)
    (λ k. is_wrong_at l.self.facts.0 l.self.facts.1 (places.Field k)) l.number
