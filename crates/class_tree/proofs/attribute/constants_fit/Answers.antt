use Rattle.std.proofs.Common.{◌≡◌, ◌∙◌, sym, false, take}
use Rattle.std.proofs.lemmas.List.{take_all}
use Rattle.std.proofs.lemmas.List.Folds.{list_all-map, list_all_at}
use Rattle.model.specs.Conditions.{constant_fits}
use Rattle.class_tree.specs.View.{field_part_of}
use Rattle.class_tree.proofs.attribute.constants_fit.Goals as goal

pub returns-then-not-fits : goal.returns-then-not-fits
returns-then-not-fits c =
    let parts = c.args.parts.now in
    let fits = constant_fits c.args.pool.now c.args.descriptor.now in
    let here : fits (field_part_of c.part-item.result) ≡ false = sym c.fits.ensures ∙ c.if-not-fits.true in
    sym (list_all-map fits field_part_of parts ∙ list_all_at (λ x. fits (field_part_of x)) parts c.parts.part-index c.part-item.result c.parts-test.true (rw (← c.part-item.is) here))

pub returns : goal.returns
returns c =
    let parts = c.args.parts.now in
    let fits = constant_fits c.args.pool.now c.args.descriptor.now in
    let whole : take c.parts.part-index parts ≡ parts = take_all c.parts.part-index parts c.parts-test.false in
    sym (list_all-map fits field_part_of parts ∙ (rw whole at c.parts.invariant))
