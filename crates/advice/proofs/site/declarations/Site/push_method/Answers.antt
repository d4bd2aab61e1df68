use Rattle.std.proofs.Common.{sym}
use Rattle.classfile.specs.View.{code_of, method_of}
use Rattle.advice.specs.Telling.{TellsCode, TellsMethod}
use Rattle.advice.proofs.TellingLaws.{on_ok}
use Rattle.advice.proofs.WalkLaws.{method_told}
use Rattle.advice.proofs.site.declarations.Site.push_method.Goals as goal

pub returns-in_ok-lines-in-Some : goal.returns-in_ok-lines-in-Some
returns-in_ok-lines-in-Some c =
    let site = c.args.self.now in
    let method = method_of c.args.method.now in
    let code = code_of c.in-Some.code.now in
    let after = c.push_all.new.told.items in
    let all : TellsCode site.facts.0 site.facts.1 c.push_declaration.new.told.items after site.number c.args.number code
    → TellsMethod site.facts.0 site.facts.1 c.args.told.now.items after site.number c.args.number method =
    λ h. method_told _ _ _ _ _ _ _ method code c.in_ok-push_declaration.ensures h (sym c.in-Some.ensures) in
    on_ok c.push_all.result all c.push_all.ensures
