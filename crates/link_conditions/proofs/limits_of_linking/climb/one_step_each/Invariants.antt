use Rattle.std.proofs.Common.{◌≡◌, ◌++◌, drop, map}
use Rattle.model.specs.Tree.{FileTree}
use Rattle.model.specs.Classes.{classes_of, name_of}
use Rattle.link_conditions.specs.limits_of_linking.Climbing.{climb, climbs}
use Rattle.link_conditions.proofs.limits_of_linking.climb.one_step_each.Given as goal

abbrev pub invariant-loop-place : goal.invariant-loop-place
invariant-loop-place l = l.rows.items ++ map (λ (file : FileTree). climb l.set 1 (name_of file)) (drop l.place (classes_of l.set)) ≡ climbs l.set 1
