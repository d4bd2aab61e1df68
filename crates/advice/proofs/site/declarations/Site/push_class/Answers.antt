use Rattle.link_conditions.specs.resolution.Unresolved.{class_stands}
use Rattle.advice.specs.Told.{Keeps}
use Rattle.advice.specs.Telling.{Tells}
use Rattle.advice.specs.declared.told.ToldPlace.TheVariants as places
use Rattle.advice.proofs.TellingLaws.{on_ok, tells_then, wrong_told}
use Rattle.advice.proofs.site.declarations.Site.push_class.Goals as goal

pub returns : goal.returns
returns c =
    let site = c.args.self.now in
    let between = c.push_told.new.told.items in
    let after = c.push_above.new.told.items in
    let wrong = class_stands site.facts.0 site.facts.1 in
    let all : Keeps between after → Tells c.args.told.now.items after site.number places.Class wrong =
    λ h. tells_then _ between _ _ _ _ (wrong_told _ _ _ _ wrong c.in_ok-push_told.ensures.kept c.in_ok-push_told.ensures.told) h in
    on_ok c.push_above.result all c.push_above.ensures
