use Rattle.std.proofs.Common.{◌≡◌}
use Rattle.hierarchy.specs.Above.{rows_of}
use Rattle.hierarchy.specs.Numbers.{named_rows}
use Rattle.hierarchy.proofs.rows.rows_within.Given as goal

abbrev pub invariant-loop-step : goal.invariant-loop-step
invariant-loop-step l = named_rows l.names l.rows.items ≡ rows_of l.set l.fn.kind l._step
