use Rattle.std.proofs.Common.{length}
use Rattle.advice.specs.Telling.{TellsMethods, TellsFile}
use Rattle.advice.proofs.TellingLaws.{on_ok}
use Rattle.advice.proofs.WalkLaws.{file_told}
use Rattle.advice.proofs.site.declarations.Site.push_all.Goals as goal

pub returns : goal.returns
returns c =
    let site = c.args.self.now in
    let after = c.push_methods.new.told.items in
    let all : TellsMethods site.facts.0 site.facts.1 c.push_fields.new.told.items after site.number (length site.facts.1.methods)
    → TellsFile site.facts.0 site.facts.1 c.args.told.now.items after site.number =
    λ h. file_told _ _ _ _ _ _ _ c.in_ok-push_class.ensures c.in_ok-push_fields.ensures h in
    on_ok c.push_methods.result all c.push_methods.ensures
