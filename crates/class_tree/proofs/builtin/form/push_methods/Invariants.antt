use Rattle.std.proofs.Common.{◌≡◌, ◌+◌, ◌*◌, ◌++◌, drop, map}
use Rattle.model.specs.BuiltInForm.{methods_from}
use Rattle.class_tree.specs.View.{method_of}
use Rattle.class_tree.specs.builtin.View.{members_of}
use Rattle.class_tree.proofs.builtin.form.push_methods.Given as goal

abbrev pub invariant-loop-member : goal.invariant-loop-member
invariant-loop-member l =
    (l.at ≡ l.first + 2 * l.member-index)
    × (map method_of l.methods.items ++ methods_from l.at (members_of (drop l.member-index l.members))
    ≡ map method_of l.initial.methods.items ++ methods_from l.first (members_of l.members))
