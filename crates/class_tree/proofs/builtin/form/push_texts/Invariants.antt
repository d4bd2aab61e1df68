use Rattle.std.proofs.Common.{◌≡◌, ◌++◌, drop}
use Rattle.model.specs.BuiltInForm.{texts_of}
use Rattle.constant_pool.specs.View.{entries_of}
use Rattle.class_tree.specs.builtin.View.{members_of}
use Rattle.class_tree.proofs.builtin.form.push_texts.Given as goal

abbrev pub invariant-loop-member : goal.invariant-loop-member
invariant-loop-member l =
    entries_of l.pool.items ++ texts_of (members_of (drop l.member-index l.members)) ≡ entries_of l.initial.pool.items ++ texts_of (members_of l.members)
