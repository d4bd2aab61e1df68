use Rattle.std.proofs.Common.{◌≡◌, ◌<◌, ℕ, false, take, length}
use Rattle.std.specs.Prelude.{slice_index_or}
use Rattle.types.specs.subclass_table.Columns.{is_tested}
use Rattle.types.proofs.subclass_table.columns.marks_of.Given as goal

abbrev pub invariant-loop-class : goal.invariant-loop-class
invariant-loop-class l = record {
  count : length l.marks.items ≡ l.count;
  each : (class : ℕ) → class < l.count → slice_index_or l.marks.items class false ≡ is_tested (take l.class-index l.tested) class;
}
