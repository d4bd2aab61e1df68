use Rattle.std.proofs.Common.{◌≡◌, drop, map}
use Rattle.model.specs.Classes.{classes_of, name_of}
use Rattle.hierarchy.specs.Above.{with_names}
use Rattle.hierarchy.proofs.name_table.add_classes.Given as goal

abbrev pub invariant-loop-place : goal.invariant-loop-place
invariant-loop-place l = with_names l.names (map name_of (drop l.place (classes_of l.set))) ≡ with_names l.initial.names (map name_of (classes_of l.set))
