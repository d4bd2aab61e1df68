use Rattle.std.proofs.Common.{◌≡◌, ℕ, ◌<◌, get_or, true, false}
use Rattle.model.specs.CodeParts.{begins_none}
use Rattle.classfile.proofs.profile.instruction.end_of_decoding.Given as goal

abbrev pub invariant-loop-pc : goal.invariant-loop-pc
invariant-loop-pc l = (k : ℕ) → k < l.pc → get_or l.marks k false ≡ true → begins_none l.code.code.items k ≡ false
