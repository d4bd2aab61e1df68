use Rattle.std.proofs.Common.{◌≡◌, ◌≤◌, ◌<◌, ℕ, false, length}
use Rattle.std.specs.Prelude.{is_some, slice_index_or}
use Rattle.types.specs.subclass_table.Columns.{column_in}
use Rattle.types.proofs.subclass_table.Growing.{AreOf}
use Rattle.types.proofs.subclass_table.columns.columns_of.Given as goal

abbrev pub invariant-loop-class : goal.invariant-loop-class
invariant-loop-class l = record {
  count : length l.columns.by_class.items ≡ l.class;
  few : length l.columns.classes.items ≤ l.class;
  of : AreOf l.columns.by_class.items l.columns.classes.items;
  all : (class : ℕ) → class < l.class → is_some (column_in l.columns.by_class.items class) ≡ slice_index_or l.marks class false;
}
