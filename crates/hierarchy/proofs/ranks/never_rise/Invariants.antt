use Rattle.std.proofs.Common.{◌≡◌, false, take}
use Rattle.std.specs.List.{list_any}
use Rattle.model.specs.Classes.{classes_of}
use Rattle.hierarchy.specs.Ranks.{rises}
use Rattle.hierarchy.proofs.ranks.never_rise.Given as goal

abbrev pub invariant-loop-place : goal.invariant-loop-place
invariant-loop-place l = list_any (rises l.set l.ranks) (take l.place (classes_of l.set)) ≡ false
