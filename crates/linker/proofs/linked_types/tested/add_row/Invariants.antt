use Rattle.std.proofs.Common.{◌≡◌, ◌++◌, take}
use Rattle.linker.specs.linked_types.Tested.{tested_in_row}
use Rattle.linker.proofs.linked_types.tested.add_row.Given as goal

abbrev pub invariant-loop-entry : goal.invariant-loop-entry
invariant-loop-entry l = l.tested.items ≡ l.initial.tested.items ++ tested_in_row (take l.entry-index l.row)
