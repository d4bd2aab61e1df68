use Rattle.std.proofs.Common.{◌≡◌, ◌++◌, drop, map}
use Rattle.model.specs.Tree.{FileTree}
use Rattle.model.specs.Classes.{classes_of, name_of}
use Rattle.model.specs.Lookup.{instance_fields}
use Rattle.linker.specs.field_links.Chains.{count_in}
use Rattle.linker.specs.field_links.Slots.{sizes}
use Rattle.linker.proofs.field_links.sizes.sizes.Given as goal

abbrev pub invariant-loop-place : goal.invariant-loop-place
invariant-loop-place l = l.rows.items ++ map (λ (file : FileTree). count_in l.fn.counted (instance_fields l.set (name_of file))) (drop l.place (classes_of l.set)) ≡ sizes l.fn.counted l.set
