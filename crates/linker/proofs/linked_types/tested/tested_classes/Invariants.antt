use Rattle.std.proofs.Common.{◌≡◌, ◌++◌, take}
use Rattle.std.specs.List.{flat_map}
use Rattle.linker.specs.linked_types.Tested.{tested_in, tested_in_row}
use Rattle.linker.proofs.linked_types.tested.tested_classes.Given as goal

abbrev pub invariant-loop-t : goal.invariant-loop-t
invariant-loop-t l = l.tested.items ≡ flat_map tested_in (take l.t-index l.components)

abbrev pub invariant-loop-row : goal.invariant-loop-row
invariant-loop-row l = l.tested.items ≡ flat_map tested_in l.components ++ flat_map (λ row. tested_in_row row.items) (take l.row-index l.rows)
