use Rattle.std.proofs.Common.{◌≡◌, ◌≤◌, ◌-◌, ◌++◌, length, drop}
use Rattle.model.specs.Texts.{decoded}
use Rattle.constant_pool.proofs.modified_utf8.decode.Given as goal

abbrev pub invariant-units : goal.invariant-units
invariant-units l = record {
  within : l.at ≤ length l.bytes;
  so_far : l.text.items ++ decoded (drop l.at l.bytes) ≡ decoded l.bytes;
}

abbrev pub decreases-units : goal.decreases-units
decreases-units l = length l.bytes - l.at
