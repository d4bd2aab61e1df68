use Rattle.std.proofs.Common.{◌≡◌, false, take}
use Rattle.std.specs.List.{list_any}
use Rattle.model.specs.Hierarchy.{has_bad_hierarchy}
use Rattle.linker.proofs.hierarchy_rules.check_rules.Given as goal

abbrev pub invariant-loop-number : goal.invariant-loop-number
invariant-loop-number l = list_any (has_bad_hierarchy l.set) (take l.number l.set) ≡ false
