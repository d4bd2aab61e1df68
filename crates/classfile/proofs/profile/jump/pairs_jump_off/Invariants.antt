use Rattle.std.proofs.Common.{◌≡◌, ℕ, ◌<◌, true}
use Rattle.model.specs.Instruction.{lookup_pair}
use Rattle.model.specs.CodeConditions.{lands}
use Rattle.classfile.proofs.profile.jump.pairs_jump_off.Given as goal

abbrev pub invariant-loop-k : goal.invariant-loop-k
invariant-loop-k l = (j : ℕ) → j < l.k → lands l.code l.pc ((lookup_pair l.code l.at j).1) ≡ true
