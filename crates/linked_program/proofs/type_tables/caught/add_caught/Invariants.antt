use Rattle.std.proofs.Common.{◌≡◌, ◌++◌, take}
use Rattle.std.specs.List.{flat_map}
use Rattle.linked_program.specs.type_tables.Rows.{caught_in}
use Rattle.linked_program.proofs.type_tables.caught.add_caught.Given as goal

abbrev pub invariant-loop-row : goal.invariant-loop-row
invariant-loop-row l = l.tested.items ≡ l.initial.tested.items ++ flat_map (λ row. caught_in row.items) (take l.row-index l.rows)
