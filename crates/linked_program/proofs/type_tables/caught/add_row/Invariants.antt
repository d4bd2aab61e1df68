use Rattle.std.proofs.Common.{◌≡◌, ◌++◌, take}
use Rattle.linked_program.specs.type_tables.Rows.{caught_in}
use Rattle.linked_program.proofs.type_tables.caught.add_row.Given as goal

abbrev pub invariant-loop-entry : goal.invariant-loop-entry
invariant-loop-entry l = l.tested.items ≡ l.initial.tested.items ++ caught_in (take l.entry-index l.row)
