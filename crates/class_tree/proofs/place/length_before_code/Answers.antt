use Rattle.std.proofs.Common.{◌≡◌, ◌∙◌, subst, sym, true, false, arith, length, map}
use Rattle.model.specs.Conditions.{is_code_part}
use Rattle.model.specs.Spelling.{method_part}
use Rattle.constant_pool.specs.Checking.{saturated}
use Rattle.class_tree.specs.View.{method_part_of}
use Rattle.class_tree.specs.CodePlace.{before_code}
use Rattle.class_tree.proofs.Fronts.{at_code_ends, past_skipped_goes_on, all_past}
use Rattle.class_tree.proofs.place.length_before_code.Goals as goal

pub returns-then-is_code : goal.returns-then-is_code
returns-then-is_code c =
    let parts = c.args.attributes.now in
    let here : is_code_part (method_part_of c.part-item.result) ≡ true = sym c.is_code.ensures ∙ c.if-is_code.true in
    c.saturating_add.ensures ∙ at_code_ends method_part_of parts c.parts.part-index c.part-item.result c.parts.sum (length (before_code (map method_part_of parts))) c.parts-test.true (subst (λ x. is_code_part (method_part_of x) ≡ true) c.part-item.is here) c.parts.invariant.1

pub parts-preserved : goal.parts-preserved
parts-preserved c =
    let parts = c.args.attributes.now in
    let here : is_code_part (method_part_of c.part-item.result) ≡ false = sym c.is_code.ensures ∙ c.if-is_code.false in
    let next : c.length.result ≡ saturated (length (method_part (method_part_of c.part-item.result))) = c.length.ensures in
    (omega (arith, c.saturating_add-sum.ensures), rw c.saturating_add-sum.ensures (past_skipped_goes_on method_part_of parts c.parts.part-index c.part-item.result c.parts.sum (length (before_code (map method_part_of parts))) c.length.result c.parts-test.true (subst (λ x. is_code_part (method_part_of x) ≡ false) c.part-item.is here) (subst (λ x. c.length.result ≡ saturated (length (method_part (method_part_of x)))) c.part-item.is next) c.parts.invariant.1))

pub returns : goal.returns
returns c = all_past method_part_of c.args.attributes.now c.parts.part-index c.parts.sum (length (before_code (map method_part_of c.args.attributes.now))) c.parts-test.false c.parts.invariant.0 c.parts.invariant.1
