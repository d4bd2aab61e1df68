use Rattle.std.proofs.Common.{◌≡◌, ◌++◌, take}
use Rattle.kept_parts.specs.Rows.{flags_row}
use Rattle.kept_parts.proofs.heap_rows.push_fat.Given as goal

abbrev pub invariant-objects : goal.invariant-objects
invariant-objects l = l.row.items ≡ l.fn.row.items ++ flags_row (take l.object l.heap.locks.fat)
