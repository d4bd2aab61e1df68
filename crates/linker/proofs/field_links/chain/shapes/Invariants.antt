use Rattle.std.proofs.Common.{◌≡◌, ◌++◌, drop, map}
use Rattle.model.specs.Classes.{classes_of}
use Rattle.linker.specs.field_links.Chains.{shape_of, shapes}
use Rattle.linker.proofs.field_links.chain.shapes.Given as goal

abbrev pub invariant-loop-place : goal.invariant-loop-place
invariant-loop-place l = l.rows.items ++ map (shape_of l.counted l.set) (drop l.place (classes_of l.set)) ≡ shapes l.counted l.set
