use Rattle.next_accesses.proofs.read_operands.Reading.{operands_read}
use Rattle.next_accesses.proofs.read_operands.operands_are_read.Goals as goal

pub returns : goal.returns
returns c = record { holds = operands_read }
