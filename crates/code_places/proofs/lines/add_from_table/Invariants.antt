use Rattle.std.proofs.Common.{◌≡◌, ◌++◌}
use Rattle.std.specs.List.{flat_map}
use Rattle.model.specs.Rows.{counting}
use Rattle.code_places.specs.Lines.{start_of}
use Rattle.code_places.specs.Points.{points_at}
use Rattle.code_places.proofs.lines.add_from_table.Given as goal

-- by the entries so far
abbrev pub invariant-entries : goal.invariant-entries
invariant-entries l = l.points.items ≡ l.fn.points.items ++ points_at l.method (flat_map (start_of l.starts l.table l.line) (counting 0 l.entry))
