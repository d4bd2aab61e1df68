use Rattle.std.proofs.Common.{◌≡◌, ◌+◌, ◌*◌, ◌++◌, drop, map}
use Rattle.model.specs.BuiltInForm.{indices_from}
use Rattle.class_tree.proofs.builtin.form.interfaces_of.Given as goal

abbrev pub invariant-loop-interface : goal.invariant-loop-interface
invariant-loop-interface l =
    (l.at ≡ 6 + 2 * l._interface-index)
    × (l.indices.items ++ indices_from l.at (map (λ n. n.now) (drop l._interface-index l.interfaces)) ≡ indices_from 6 (map (λ n. n.now) l.interfaces))
