use Rattle.std.proofs.Common.{◌≡◌, ◌-◌, ◌++◌, length}
use Rattle.model.specs.InstructionStarts.{starts, starts_from}
use Rattle.opcodes.proofs.boundaries.starts.Given as goal

abbrev pub invariant-loop-pc : goal.invariant-loop-pc
invariant-loop-pc l = l.marks.items ++ starts_from l.code (length l.code - l.pc) l.pc l.inside ≡ starts l.code
