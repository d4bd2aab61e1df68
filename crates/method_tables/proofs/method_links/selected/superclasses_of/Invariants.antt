use Rattle.std.proofs.Common.{◌≡◌, ◌++◌, map, drop}
use Rattle.model.specs.Classes.{classes_of}
use Rattle.method_tables.specs.method_links.Selected.{superclass_place, superclass_places}
use Rattle.method_tables.proofs.method_links.selected.superclasses_of.Given as goal

abbrev pub invariant-loop-class : goal.invariant-loop-class
invariant-loop-class l = l.rows.items ++ map (superclass_place l.set) (drop l.class (classes_of l.set)) ≡ superclass_places l.set
