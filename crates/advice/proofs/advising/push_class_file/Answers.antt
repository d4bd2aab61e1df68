use Rattle.std.proofs.Common.{◌≡◌, ap, subst, ◌∙◌}
use Rattle.model.specs.Classes.{Program}
use Rattle.model.specs.Tree.{FileTree}
use Rattle.classfile.specs.View.{file_of}
use Rattle.advice.specs.Telling.{TellsFile}
use Rattle.advice.proofs.TellingLaws.{on_ok, keeps_both}
use Rattle.advice.proofs.WalkLaws.{file_then}
use Rattle.advice.proofs.advising.push_class_file.Goals as goal

pub returns : goal.returns
returns c =
    let classes = c.args.classes.now in
    let tree = file_of c.args.file.now in
    let number = c.args.number in
    let facts = c.in_ok-new.field-0 in
    let before = c.args.told.now.items in
    let between = c.push_malformed_code.new.told.items in
    let after = c.push_all.new.told.items in
    let whole : facts.0 ≡ classes = ap (λ (p : Program × FileTree). p.0) c.in_ok-new.ensures ∙ c.classes.view_is in
    let its : facts.1 ≡ tree = ap (λ (p : Program × FileTree). p.1) c.in_ok-new.ensures in
    let kept = keeps_both _ _ _ c.in_ok-push_rule.ensures c.in_ok-push_malformed_code.ensures in
    let all : TellsFile facts.0 facts.1 between after number → TellsFile classes tree before after number =
    λ h. subst (λ (p : Program). TellsFile p tree before after number) whole
    (subst (λ (t : FileTree). TellsFile facts.0 t before after number) its (file_then facts.0 facts.1 before between after number kept h)) in
    on_ok c.push_all.result all c.push_all.ensures
