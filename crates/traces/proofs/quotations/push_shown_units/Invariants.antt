use Rattle.std.proofs.Common.{◌≡◌, ◌++◌, take}
use Rattle.traces.specs.Quotations.{shown_units}
use Rattle.traces.proofs.quotations.push_shown_units.Given as goal

abbrev pub invariant-loop-unit : goal.invariant-loop-unit
invariant-loop-unit l = l.text.items ≡ l.fn.text.items ++ shown_units (take l.unit-index l.units)
