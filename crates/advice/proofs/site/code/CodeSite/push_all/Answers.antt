use Rattle.classfile.specs.View.{code_of}
use Rattle.advice.specs.Telling.{TellsEach, TellsCode}
use Rattle.advice.specs.Wrong.{is_entry_wrong}
use Rattle.advice.specs.declared.told.ToldPlace.TheVariants as places
use Rattle.advice.proofs.TellingLaws.{on_ok}
use Rattle.advice.proofs.WalkLaws.{code_told}
use Rattle.advice.proofs.site.code.CodeSite.push_all.Goals as goal

pub returns : goal.returns
returns c =
    let site = c.args.self.now.site.now in
    let code = code_of c.args.self.now.code.now in
    let number = c.args.self.now.number in
    let after = c.push_entries.new.told.items in
    let all : TellsEach c.push_offsets.new.told.items after site.number (λ k. places.Exception number k) (is_entry_wrong site.facts.0 site.facts.1 code)
    → TellsCode site.facts.0 site.facts.1 c.args.told.now.items after site.number number code =
    λ h. code_told _ _ _ _ _ _ _ _ c.in_ok-push_offsets.ensures h in
    on_ok c.push_entries.result all c.push_entries.ensures
