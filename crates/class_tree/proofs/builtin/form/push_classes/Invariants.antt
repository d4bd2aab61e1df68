use Rattle.std.proofs.Common.{◌≡◌, ◌+◌, ◌*◌, ◌++◌, drop, map}
use Rattle.model.specs.BuiltInForm.{classes_from}
use Rattle.constant_pool.specs.View.{entries_of}
use Rattle.class_tree.proofs.builtin.form.push_classes.Given as goal

abbrev pub invariant-loop-class : goal.invariant-loop-class
invariant-loop-class l =
    (l.at ≡ l.first + 2 * l.class-index)
    × (entries_of l.pool.items ++ classes_from l.at (map (λ n. n.now) (drop l.class-index l.classes))
    ≡ entries_of l.initial.pool.items ++ classes_from l.first (map (λ n. n.now) l.classes))
