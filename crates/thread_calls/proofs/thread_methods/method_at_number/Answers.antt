use Rattle.thread_calls.proofs.thread_methods.Rows.{chosen_told}
use Rattle.thread_calls.proofs.thread_methods.method_at_number.Goals as goal

pub returns : goal.returns
returns c =
    chosen_told c.args.tables.now.linked.now c.args.program.now c.methods_are_run.ensures.holds c.args.number c.method_row.result c.method_row.ensures
