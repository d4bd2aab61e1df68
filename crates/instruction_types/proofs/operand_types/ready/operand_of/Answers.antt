use Rattle.instruction_types.proofs.operand_types.Operands.{of_popped, of_popped_behind}
use Rattle.instruction_types.proofs.operand_types.ready.operand_of.Goals as goal

pub returns-in-None : goal.returns-in-None
returns-in-None c = λ files. of_popped files c.args.asked c.args.frame.now c.args.k _ c.in-None.is c.popped_type.ensures

pub returns-in-Some-2 : goal.returns-in-Some-2
returns-in-Some-2 c = λ files. of_popped_behind files c.args.asked c.args.frame.now c.in-Some-2.field-0 c.args.k _ c.in-Some-2.is c.if-k-eq0.false c.popped_type-in-Some-2.ensures
