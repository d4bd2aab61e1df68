use Rattle.std.proofs.Common.{arith}
use Rattle.types.proofs.subclass_table.SetBits.{bits_added}
use Rattle.types.proofs.subclass_table.bits.add_row.Goals as goal

pub returns-clause-bits : goal.returns-clause-bits
returns-clause-bits c = λ fits. bits_added c.args.row.now.items c.args.other.now c.loop-place.row.items
    (λ k less. c.loop-place.invariant.done k (omega (arith, less, c.loop-place.invariant.wide, c.loop-place-test.false))) c.loop-place.invariant.wide fits
