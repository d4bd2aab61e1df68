use Rattle.std.proofs.Common.{◌≡◌, ℕ, length, take}
use Rattle.std.specs.List.{filter_map}
use Rattle.classfile.specs.View.{file_of}
use Rattle.model.specs.Pool.{class_name_at}
use Rattle.types.specs.subclass_table.Made.{AreMade}
use Rattle.types.proofs.subclass_table.Making.{IsNearSoFar}
use Rattle.types.proofs.subclass_table.class_rows.near_row.Given as goal

abbrev pub invariant-loop-index : goal.invariant-loop-index
invariant-loop-index l = record {
  wide : length l.near.items ≡ l.width;
  near : (steps : ℕ) → AreMade l.set l.columns l.width steps l.made
      → IsNearSoFar l.set l.columns steps (file_of l.file)
      (filter_map (class_name_at l.file.pool) (take l.index-index l.file.interfaces.items)) l.near.items;
}
