use Rattle.classfile.specs.View.{code_of}
use Rattle.advice.specs.Wrong.{is_entry_wrong}
use Rattle.advice.specs.declared.told.ToldPlace.TheVariants as places
use Rattle.advice.proofs.TellingLaws.{TellsBelow}
use Rattle.advice.proofs.site.code.CodeSite.push_entries.Given as goal

abbrev pub invariant-loop-number : goal.invariant-loop-number
invariant-loop-number l =
    TellsBelow l.initial.told.items l.told.items l.self.site.now.number (λ k. places.Exception l.self.number k)
    (is_entry_wrong l.self.site.now.facts.0 l.self.site.now.facts.1 (code_of l.self.code.now)) l.number
