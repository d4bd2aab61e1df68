use Rattle.std.proofs.Common.{◌≡◌, false, map, take}
use Rattle.model.specs.Classes.{name_of}
use Rattle.model.specs.Linkable.{two_of_one_name}
use Rattle.hierarchy.specs.Set.{trees_of}
use Rattle.hierarchy.proofs.set.names_of.Given as goal

abbrev pub invariant-classes : goal.invariant-classes
invariant-classes l = record {
  named : map (λ name. name.items) l.names.keys ≡ map name_of (trees_of (take l.place l.classes));
  differ : two_of_one_name (trees_of (take l.place l.classes)) ≡ false;
}
