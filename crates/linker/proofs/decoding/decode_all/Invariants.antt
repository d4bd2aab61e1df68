use Rattle.std.proofs.Common.{◌≡◌, map, take, vec_items}
use Rattle.model.specs.Classes.{Program}
use Rattle.model.specs.Linkable.{AreSpelled}
use Rattle.hierarchy.specs.Set.{trees_of}
use Rattle.linker.proofs.decoding.decode_all.Given as goal

abbrev pub invariant-loop-number : goal.invariant-loop-number
invariant-loop-number l = record {
  found : AreSpelled (map vec_items (take l.number l.files)) (trees_of l.classes.items);
  only : (trees : Program) → AreSpelled (map vec_items (take l.number l.files)) trees → trees_of l.classes.items ≡ trees;
}
