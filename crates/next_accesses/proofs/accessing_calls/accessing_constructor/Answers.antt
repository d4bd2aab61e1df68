use Rattle.next_accesses.proofs.accessing_calls.Rows.{constructor_told}
use Rattle.next_accesses.proofs.accessing_calls.accessing_constructor.Goals as goal

pub returns : goal.returns
returns c =
    constructor_told c.args.tables.now.linked.now c.args.program.now c.methods_are_read.ensures.holds c.args.callee c.accessing_row.result c.accessing_row.ensures
