use Rattle.std.proofs.Common.{◌∙◌, ◌++◌, ap, arith, drop, sym}
use Rattle.model.specs.Texts.{character_bytes, encoded}
use Rattle.schedule.specs.report.Units.{units_of}
use Rattle.schedule.proofs.report.Units.{last_written}
use Rattle.schedule.proofs.report.texts.push_text.Goals as goal

pub returns-in_ok-push_character : goal.returns-in_ok-push_character
returns-in_ok-push_character c =
    last_written c.args.units.now c.loop-unit.unit-index c.in-Some.high c.args.text.now.items c.loop-unit.text.items _ (omega (arith, c.loop-unit-test.false))
    (ap (λ o. c.loop-unit.text.items ++ encoded (units_of o ++ drop c.loop-unit.unit-index c.args.units.now)) (sym c.in-Some.is) ∙ c.loop-unit.invariant.1)
    (c.in_ok-push_character.ensures ∙ ap (λ o. c.loop-unit.text.items ++ character_bytes o) c.lone.ensures)
