use Rattle.std.proofs.Common.{◌≡◌, false, take}
use Rattle.place_runs.specs.Shown.{has_point}
use Rattle.place_runs.proofs.standing.has_point.Given as goal

abbrev pub invariant-points : goal.invariant-points
invariant-points l = has_point (take l.at l.points) l.method l.offset ≡ false
