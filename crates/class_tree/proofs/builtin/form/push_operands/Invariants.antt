use Rattle.std.proofs.Common.{◌≡◌, ◌++◌, drop}
use Rattle.constant_pool.specs.View.{entries_of}
use Rattle.class_tree.specs.builtin.View.{operands_of}
use Rattle.class_tree.proofs.builtin.form.push_operands.Given as goal

abbrev pub invariant-loop-operand : goal.invariant-loop-operand
invariant-loop-operand l =
    entries_of l.pool.items ++ operands_of (drop l.operand-index l.operands) ≡ entries_of l.initial.pool.items ++ operands_of l.operands
