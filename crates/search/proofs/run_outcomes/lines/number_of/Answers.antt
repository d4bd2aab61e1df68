use Rattle.search.proofs.run_outcomes.LineLaws.{are_digits, number_fits, number_is}
use Rattle.search.proofs.run_outcomes.lines.number_of.Goals as goal

pub digits-preserved : goal.digits-preserved
digits-preserved c =
    let digits = c.args.digits.now in let k = c.digits.digit-index in let here = c.digits-test.true in
    let low = c.if-digit-lt48.false in let high = c.if-digit-gt57.false in let before = c.digits.invariant in (
      are_digits digits k here low high before.0,
      number_is digits k here low high c.digits.number c.from.result c.from.ensures before.1,
      number_fits digits k here low high c.digits.number c.from.result c.from.ensures before.2,
    )
