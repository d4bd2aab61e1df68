use Rattle.std.proofs.Common.{◌≡◌, ℕ, ◌<◌, true}
use Rattle.model.specs.Instruction.{table_jump}
use Rattle.model.specs.CodeConditions.{lands}
use Rattle.classfile.proofs.profile.jump.table_jumps_off.Given as goal

abbrev pub invariant-loop-k : goal.invariant-loop-k
invariant-loop-k l = (j : ℕ) → j < l.k → lands l.code l.pc (table_jump l.code l.at j) ≡ true
