use Rattle.std.proofs.Common.{◌≡◌, ◌++◌, drop, map}
use Rattle.model.specs.Tree.{FileTree}
use Rattle.model.specs.Classes.{classes_of, name_of}
use Rattle.hierarchy.specs.Above.{next_row, next_rows}
use Rattle.hierarchy.specs.Numbers.{named_rows}
use Rattle.hierarchy.proofs.rows.rows_above.Given as goal

abbrev pub invariant-loop-place : goal.invariant-loop-place
invariant-loop-place l =
    let rows = named_rows l.names l.rows in
    named_rows l.names l.next.items ++ map (λ (file : FileTree). next_row l.set l.fn.kind rows (name_of file)) (drop l.place (classes_of l.set)) ≡ next_rows l.set l.fn.kind rows
