use Rattle.std.proofs.Common.{◌≡◌, ℕ, ◌<◌, get_or, true, false}
use Rattle.std.specs.Prelude.{None}
use Rattle.classfile.specs.View.{code_of}
use Rattle.classfile.specs.profile.Faults.{row_of, instruction_outside_at, instruction_malformed_at, Says}
use Rattle.classfile.proofs.profile.instruction.first_flaw.Given as goal

abbrev pub invariant-loop-pc : goal.invariant-loop-pc
invariant-loop-pc l = (k : ℕ) → k < l.pc → get_or l.marks k false ≡ true → Says None (instruction_outside_at l.file.pool (code_of l.code) k) (instruction_malformed_at (row_of l.aside) l.file.pool (code_of l.code) k)
