use Rattle.table_actions.proofs.tables.Findings.{owner_told}
use Rattle.table_actions.proofs.findings.wait_findings.Goals as goal

pub returns-then-is_owner : goal.returns-then-is_owner
returns-then-is_owner c =
    owner_told c.args.heap.now c.args.threads.now c.args.thread c.args.object c.is_owner.result c.is_owner.ensures c.if-is_owner.true c.interrupt_found.result
    c.interrupt_found.ensures c.of_own.result c.of_own.ensures
