use Rattle.std.proofs.Common.{◌≡◌, false, take}
use Rattle.std.specs.List.{list_any}
use Rattle.model.specs.Classes.{classes_of}
use Rattle.hierarchy.specs.Fields.{has_interface_below_other}
use Rattle.hierarchy.proofs.fields.superinterfaces_are_flat.Given as goal

abbrev pub invariant-loop-place : goal.invariant-loop-place
invariant-loop-place l = list_any (has_interface_below_other l.set) (take l.place (classes_of l.set)) ≡ false
