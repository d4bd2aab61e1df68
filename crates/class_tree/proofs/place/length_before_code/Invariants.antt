use Rattle.std.proofs.Common.{◌≡◌, ◌+◌, ◌<◌, ◌^◌, length, drop, map}
use Rattle.constant_pool.specs.Checking.{saturated}
use Rattle.class_tree.specs.View.{method_part_of}
use Rattle.class_tree.specs.CodePlace.{before_code}
use Rattle.class_tree.proofs.place.length_before_code.Given as goal

abbrev pub invariant-parts : goal.invariant-parts
invariant-parts l = (l.sum < 2 ^ 64) × (saturated (l.sum + length (before_code (map method_part_of (drop l.part-index l.attributes)))) ≡ saturated (length (before_code (map method_part_of l.attributes))))
