use Rattle.std.proofs.Common.{◌≡◌, ℕ, ◌<◌, get_or, true, false}
use Rattle.classfile.specs.View.{code_of, file_of}
use Rattle.link_conditions.specs.resolution.Unresolved.{instruction_stands}
use Rattle.link_conditions.proofs.resolution.instruction.first_instruction.Given as goal

abbrev pub invariant-loop-pc : goal.invariant-loop-pc
invariant-loop-pc l = (k : ℕ) → k < l.pc → get_or l.marks k false ≡ true → instruction_stands l.hierarchy (file_of l.file) (code_of l.code) k ≡ false
