use Rattle.std.proofs.Common.{◌≡◌, false, take}
use Rattle.std.specs.List.{list_any}
use Rattle.model.specs.Hierarchy.{in_cycle}
use Rattle.hierarchy.proofs.cycles.first_led_back.Given as goal

abbrev pub invariant-loop-number : goal.invariant-loop-number
invariant-loop-number l = list_any (in_cycle l.set) (take l.number l.set) ≡ false
