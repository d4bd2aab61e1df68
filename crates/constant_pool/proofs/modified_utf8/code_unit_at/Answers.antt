use Rattle.std.proofs.Common.{◌≡◌, ◌∙◌, arith, sym}
use Rattle.model.specs.Texts.{unit_of_one}
use Rattle.constant_pool.proofs.Units.{one_at, two_at, three_at}
use Rattle.constant_pool.proofs.modified_utf8.code_unit_at.Goals as goal

pub returns-then-are_two-clause-spelled : goal.returns-then-are_two-clause-spelled
returns-then-are_two-clause-spelled c =
    two_at c.args.bytes.now c.args.at c.requires c.byte_at-first.result c.byte_at-first.ensures c.byte_at-second.result c.byte_at-second.ensures c.unit_of_two.result c.unit_of_two.ensures
    (sym c.are_two.ensures ∙ c.if-are_two.true)

pub returns-then-are_three-clause-spelled : goal.returns-then-are_three-clause-spelled
returns-then-are_three-clause-spelled c =
    three_at c.args.bytes.now c.args.at c.requires c.byte_at-first.result c.byte_at-first.ensures c.byte_at-second.result c.byte_at-second.ensures c.byte_at-third.result c.byte_at-third.ensures c.unit_of_three.result c.unit_of_three.ensures
    (sym c.are_two.ensures ∙ c.if-are_two.false) (sym c.are_three.ensures ∙ c.if-are_three.true)

pub returns-clause-spelled : goal.returns-clause-spelled
returns-clause-spelled c =
    let whole : c.byte_at-first.result ≡ unit_of_one c.byte_at-first.result = omega (arith, c.byte_at-first.type_inv) in
    one_at c.args.bytes.now c.args.at c.requires c.byte_at-first.result c.byte_at-first.ensures c.byte_at-second.result c.byte_at-second.ensures c.byte_at-third.result c.byte_at-third.ensures c.from.result (c.from.ensures ∙ whole)
    (sym c.are_two.ensures ∙ c.if-are_two.false) (sym c.are_three.ensures ∙ c.if-are_three.false)
