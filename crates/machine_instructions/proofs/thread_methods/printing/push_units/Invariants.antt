use Rattle.std.proofs.Common.{◌≡◌, ◌+◌, ◌++◌, take, map}
use Rattle.std.specs.Vec.{vec_len, vec_capacity}
use Rattle.machine_instructions.specs.thread_methods.Printed.{unit_in}
use Rattle.machine_instructions.proofs.thread_methods.printing.push_units.Given as goal

abbrev pub invariant-loop-unit : goal.invariant-loop-unit
invariant-loop-unit l =
    (l.printed.items ≡ l.fn.printed.items ++ map unit_in (take l.unit-index l.units))
    × (vec_len l.printed ≡ vec_len l.fn.printed + l.unit-index)
    × (vec_capacity l.printed ≡ vec_capacity l.fn.printed)
