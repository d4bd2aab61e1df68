use Rattle.types.proofs.subclass_table.SetBits.{bit_set}
use Rattle.types.proofs.subclass_table.bits.set_bit.Goals as goal

pub returns-clause-bits : goal.returns-clause-bits
returns-clause-bits c = bit_set c.args.row.now.items c.set_in_word.new.row.items c.args.column c.set_in_word.ensures.set c.set_in_word.ensures.others
