use Rattle.std.proofs.Common.{◌≡◌, ◌++◌, take}
use Rattle.class_tree.specs.View.{code_of, skipped_of}
use Rattle.code_places.specs.Lines.{offsets_of_line}
use Rattle.code_places.specs.Points.{points_at}
use Rattle.std.specs.Prelude.{map}
use Rattle.code_places.proofs.lines.add_line.Given as goal

-- by the attributes so far
abbrev pub invariant-attributes : goal.invariant-attributes
invariant-attributes l =
    l.points.items ≡ l.fn.points.items ++ points_at l.method (offsets_of_line l.starts l.file.pool (map skipped_of (take l.attribute-index l.attribute-items)) l.line)
