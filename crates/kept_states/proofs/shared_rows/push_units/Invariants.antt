use Rattle.std.proofs.Common.{◌≡◌, ◌++◌, take}
use Rattle.kept_states.proofs.shared_rows.push_units.Given as goal

abbrev pub invariant-units : goal.invariant-units
invariant-units l = l.row.items ≡ l.fn.row.items ++ take l.unit-index l.units
