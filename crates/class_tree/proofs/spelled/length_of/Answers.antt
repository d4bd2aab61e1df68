use Rattle.std.proofs.Common.{◌≡◌, ◌∙◌, ap, subst, length, take, map}
use Rattle.std.specs.List.{flat_map}
use Rattle.std.proofs.lemmas.List.{take_all}
use Rattle.constant_pool.specs.Checking.{saturated}
use Rattle.constant_pool.specs.Lengths.{grown}
use Rattle.class_tree.proofs.spelled.length_of.Goals as goal

pub parts-preserved : goal.parts-preserved
parts-preserved g c =
    let part : c.length.result ≡ saturated (length (g.T.Spelled.text (g.T.Spelled.form_of c.part-item.result))) = c.length.ensures in
    c.saturating_add-sum.ensures
    ∙ grown g.T.Spelled.text g.T.Spelled.form_of c.args.parts.now c.parts.part-index c.part-item.result c.parts.sum c.length.result c.parts-test.true c.parts.invariant
    (subst (λ x. c.length.result ≡ saturated (length (g.T.Spelled.text (g.T.Spelled.form_of x)))) c.part-item.is part)

pub returns : goal.returns
returns g c =
    let whole : take c.parts.part-index c.args.parts.now ≡ c.args.parts.now = take_all c.parts.part-index c.args.parts.now c.parts-test.false in
    c.parts.invariant ∙ ap (λ l. saturated (length (flat_map g.T.Spelled.text (map g.T.Spelled.form_of l)))) whole
