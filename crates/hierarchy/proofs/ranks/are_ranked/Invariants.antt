use Rattle.std.proofs.Common.{◌≡◌, false, take}
use Rattle.std.specs.List.{list_any}
use Rattle.model.specs.Classes.{classes_of}
use Rattle.hierarchy.specs.Ranks.{is_misranked}
use Rattle.hierarchy.proofs.ranks.are_ranked.Given as goal

abbrev pub invariant-loop-place : goal.invariant-loop-place
invariant-loop-place l = list_any (is_misranked l.set l.ranks) (take l.place (classes_of l.set)) ≡ false
