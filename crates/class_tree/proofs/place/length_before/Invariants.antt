use Rattle.std.proofs.Common.{◌≡◌, ◌+◌, ◌<◌, ◌^◌, length, drop, map}
use Rattle.constant_pool.specs.Checking.{saturated}
use Rattle.class_tree.specs.View.{method_of}
use Rattle.class_tree.specs.CodePlace.{methods_front}
use Rattle.class_tree.proofs.place.length_before.Given as goal

abbrev pub invariant-methods : goal.invariant-methods
invariant-methods l = (l.sum < 2 ^ 64) × (saturated (l.sum + length (methods_front (map method_of (drop l.method-index l.methods)) l.left)) ≡ saturated (length (methods_front (map method_of l.methods) l.index)))
