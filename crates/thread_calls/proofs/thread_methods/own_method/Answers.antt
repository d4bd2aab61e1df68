use Rattle.thread_calls.proofs.thread_methods.Rows.{own_told}
use Rattle.thread_calls.proofs.thread_methods.own_method.Goals as goal

pub returns : goal.returns
returns c =
    own_told c.args.tables.now.linked.now c.args.program.now c.methods_are_read.ensures.holds c.args.callee c.method_row.result c.method_row.ensures
