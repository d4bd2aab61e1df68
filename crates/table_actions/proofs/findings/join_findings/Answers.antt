use Rattle.table_actions.proofs.tables.Findings.{unjoined_told}
use Rattle.table_actions.proofs.findings.join_findings.Goals as goal

pub returns : goal.returns
returns c =
    unjoined_told c.args.heap.now c.args.threads.now c.args.thread c.args.other c.has_ended.result c.has_ended.ensures c.if-has_ended.false c.interrupt_found.result
    c.interrupt_found.ensures
