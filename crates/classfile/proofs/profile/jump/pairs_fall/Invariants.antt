use Rattle.std.proofs.Common.{◌≡◌, ℕ, suc, ◌<◌, true}
use Rattle.std.specs.Prelude.{int_lt}
use Rattle.model.specs.Instruction.{lookup_pair}
use Rattle.classfile.proofs.profile.jump.pairs_fall.Given as goal

abbrev pub invariant-loop-k : goal.invariant-loop-k
invariant-loop-k l = (j : ℕ) → j < l.k → int_lt (lookup_pair l.code l.at j).0 (lookup_pair l.code l.at (suc j)).0 ≡ true
