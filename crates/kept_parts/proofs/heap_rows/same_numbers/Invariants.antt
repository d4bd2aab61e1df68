use Rattle.std.proofs.Common.{◌-◌, Some}
use Rattle.kept_parts.specs.Heaps.{GoOn}
use Rattle.kept_parts.proofs.heap_rows.same_numbers.Given as goal

abbrev pub invariant-same : goal.invariant-same
invariant-same l = GoOn l.heap (Some l.before) l.object l.at l.fn.numbers.items l.numbers.items

abbrev pub decreases-same : goal.decreases-same
decreases-same l = l.until - l.at
