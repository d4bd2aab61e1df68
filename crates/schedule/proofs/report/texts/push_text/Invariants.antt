use Rattle.std.proofs.Common.{◌≡◌, ◌++◌, drop}
use Rattle.model.specs.Texts.{encoded}
use Rattle.schedule.specs.report.Units.{MayWait, units_of}
use Rattle.schedule.proofs.report.texts.push_text.Given as goal

abbrev pub invariant-loop-unit : goal.invariant-loop-unit
invariant-loop-unit l = MayWait l.first × (l.text.items ++ encoded (units_of l.first ++ drop l.unit-index l.units) ≡ l.fn.text.items ++ encoded l.units)
