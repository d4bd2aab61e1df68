use Rattle.std.proofs.Common.{◌≡◌, ◌∙◌, subst, true, false, take, map}
use Rattle.std.specs.List.{list_all}
use Rattle.std.proofs.lemmas.List.{take_all}
use Rattle.std.proofs.lemmas.List.Folds.{list_all-map, list_all_at}
use Rattle.std.proofs.lemmas.Result.{err_from_is_err_and}
use Rattle.class_tree.proofs.check.check_each.Goals as goal

pub returns-in_err-check : goal.returns-in_err-check
returns-in_err-check g c =
    let parts = c.args.parts.now in
    let met = g.T.Checked.is_met c.args.texts.now in
    let view = g.T.Checked.view in
    let p = err_from_is_err_and c.from_residual.result c.from_residual.ensures.1 in
    let here : met (view c.part-item.result) ≡ false = c.in_err-check.ensures.0 in
    let found : list_all met (map view parts) ≡ false = list_all-map met view parts ∙ list_all_at (λ x. met (view x)) parts c.parts.part-index c.part-item.result c.parts-test.true (subst (λ x. met (view x) ≡ false) c.part-item.is here) in
    rw (p.1, p.2) (found, c.in_err-check.ensures.1)

pub returns : goal.returns
returns g c =
    let parts = c.args.parts.now in
    let met = g.T.Checked.is_met c.args.texts.now in
    let whole : take c.parts.part-index parts ≡ parts = take_all c.parts.part-index parts c.parts-test.false in
    list_all-map met g.T.Checked.view parts ∙ subst (λ l. list_all (λ x. met (g.T.Checked.view x)) l ≡ true) whole c.parts.invariant
