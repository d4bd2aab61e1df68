use Rattle.std.proofs.Common.{◌≡◌, take, map}
use Rattle.link_conditions.specs.limits_of_linking.Climbing.{onward}
use Rattle.link_conditions.proofs.limits_of_linking.climb.both.Given as goal

abbrev pub invariant-loop-climb : goal.invariant-loop-climb
invariant-loop-climb l = l.rows.items ≡ map (onward l.second) (take l.climb-index l.first)
