use Rattle.std.proofs.Common.{◌≡◌, ℕ, ◌<◌, length, get_or}
use Rattle.classfile.specs.View.{file_of}
use Rattle.link_conditions.specs.resolution.Rows.{nothing, row_of}
use Rattle.link_conditions.proofs.resolution.table.entry_rows.Given as goal

abbrev pub invariant-loop-index : goal.invariant-loop-index
invariant-loop-index l = record {
  count : length l.rows.items ≡ l.index;
  said : (k : ℕ) → k < l.index → get_or l.rows.items k nothing ≡ row_of l.hierarchy (file_of l.file) k;
}
