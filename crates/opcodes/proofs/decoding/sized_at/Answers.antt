use Rattle.std.proofs.Common.{rules}
use Rattle.model.specs.OpcodeTable.{low_form, high_form}
use Rattle.model.proofs.InstructionLaws.{made_fits}
use Rattle.opcodes.proofs.decoding.sized_at.Goals as goal

pub returns-then-opcode-lt153-clause-within : goal.returns-then-opcode-lt153-clause-within
returns-then-opcode-lt153-clause-within c = rw c.low.ensures (made_fits (low_form c.in_ok-opcode.opcode) c.args.code.now c.args.pc (search rules))

pub returns-else-opcode-lt153-clause-within : goal.returns-else-opcode-lt153-clause-within
returns-else-opcode-lt153-clause-within c = rw c.high.ensures (made_fits (high_form c.in_ok-opcode.opcode) c.args.code.now c.args.pc (search rules))
