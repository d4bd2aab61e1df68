use Rattle.std.proofs.Common.{◌≡◌, drop}
use Rattle.std.specs.List.{flat_map}
use Rattle.model.specs.Classes.{classes_of}
use Rattle.hierarchy.specs.Above.{with_names}
use Rattle.hierarchy.specs.Numbers.{direct_names}
use Rattle.hierarchy.proofs.name_table.add_supertypes.Given as goal

abbrev pub invariant-loop-place : goal.invariant-loop-place
invariant-loop-place l = with_names l.names (flat_map direct_names (drop l.place (classes_of l.set))) ≡ with_names l.initial.names (flat_map direct_names (classes_of l.set))
