use Rattle.std.proofs.Common.{◌≡◌, ◌<◌, ◌≤◌, ℕ, Some, false, length}
use Rattle.types.specs.subclass_table.Columns.{column_in}
use Rattle.types.specs.subclass_table.Rows.{has_bit, is_above_at}
use Rattle.types.proofs.subclass_table.by_names.row_by_names.Given as goal

abbrev pub invariant-loop-place : goal.invariant-loop-place
invariant-loop-place l = record {
  wide : length l.row.items ≡ l.width;
  done : (class column : ℕ) → class < l.place → column_in l.columns class ≡ Some column
      → has_bit l.row.items column ≡ is_above_at l.hierarchy l.class class;
  rest : (class column : ℕ) → l.place ≤ class → column_in l.columns class ≡ Some column → has_bit l.row.items column ≡ false;
}
