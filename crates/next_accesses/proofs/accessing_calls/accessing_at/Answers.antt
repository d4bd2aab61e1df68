use Rattle.next_accesses.proofs.accessing_calls.Rows.{chosen_told}
use Rattle.next_accesses.proofs.accessing_calls.accessing_at.Goals as goal

pub returns : goal.returns
returns c =
    chosen_told c.args.tables.now.linked.now c.args.program.now c.methods_are_run.ensures.holds c.args.number c.accessing_row.result c.accessing_row.ensures
