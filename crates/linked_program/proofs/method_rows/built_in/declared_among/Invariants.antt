use Rattle.std.proofs.Common.{◌≡◌, drop, find, map}
use Rattle.constant_pool.specs.View.{reference_of}
use Rattle.model.specs.BuiltInMethods.{is_row_of}
use Rattle.linked_program.specs.method_rows.BuiltIns.{entry_of}
use Rattle.linked_program.proofs.method_rows.built_in.declared_among.Given as goal

abbrev pub invariant-loop-declared : goal.invariant-loop-declared
invariant-loop-declared l = find (is_row_of (reference_of l.method)) (map entry_of l.all) ≡ find (is_row_of (reference_of l.method)) (map entry_of (drop l.declared-index l.all))
