use Rattle.std.proofs.Common.{◌≡◌, map, take}
use Rattle.class_tree.specs.View.{method_of}
use Rattle.hierarchy.specs.MemberKeys.{method_key}
use Rattle.hierarchy.proofs.member_keys.method_keys.Given as goal

abbrev pub invariant-loop-method : goal.invariant-loop-method
invariant-loop-method l = l.keys.items ≡ map (λ m. method_key l.numbers (method_of m)) (take l.method-index l.methods)
