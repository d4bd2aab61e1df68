use Rattle.std.proofs.Common.{◌≡◌, ◌≤◌, ◌-◌, ◌++◌, length, drop}
use Rattle.traces.specs.JsonTexts.{escaped}
use Rattle.traces.proofs.json.push_escaped.Given as goal

abbrev pub invariant-units : goal.invariant-units
invariant-units l = record {
  within : l.at ≤ length l.bytes;
  so_far : l.text.items ++ escaped (drop l.at l.bytes) ≡ l.fn.text.items ++ escaped l.bytes;
}

abbrev pub decreases-units : goal.decreases-units
decreases-units l = length l.bytes - l.at
