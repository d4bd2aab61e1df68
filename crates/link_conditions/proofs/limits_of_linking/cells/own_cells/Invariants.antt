use Rattle.std.proofs.Common.{◌≡◌, ◌≤◌, take, map, length}
use Rattle.std.specs.List.{filter}
use Rattle.classfile.specs.View.{field_of, file_of}
use Rattle.link_conditions.specs.limits_of_linking.Cells.{is_own_cell}
use Rattle.link_conditions.proofs.limits_of_linking.cells.own_cells.Given as goal

abbrev pub invariant-loop-field : goal.invariant-loop-field
invariant-loop-field l = record {
  few : l.count ≤ l.field-index;
  counted : l.count ≡ length (filter (is_own_cell (file_of l.file)) (map field_of (take l.field-index l.file.fields.items)));
}
