use Rattle.std.proofs.Common.{◌≡◌, ◌++◌, take}
use Rattle.string_methods.proofs.descriptions.appended_units.Given as goal

abbrev pub invariant-loop-unit : goal.invariant-loop-unit
invariant-loop-unit l = l.all.items ≡ l.text ++ take l.unit-index l.units
