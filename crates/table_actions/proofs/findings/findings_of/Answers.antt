use Rattle.table_actions.specs.tables.Told.{all_found, found_of}
use Rattle.linked_code.specs.declared.method.BuiltInMethod.TheVariants as called
use Rattle.table_actions.proofs.tables.Findings.{by_method}
use Rattle.table_actions.proofs.findings.findings_of.Goals as goal

pub returns-in-ThreadJoin : goal.returns-in-ThreadJoin
returns-in-ThreadJoin c =
    by_method c.args.heap.now c.args.threads.now (all_found c.join_findings.result) (λ world m. found_of world c.args.thread c.args.other m) c.args.built_in called.ThreadJoin
    c.in-ThreadJoin.is c.join_findings.ensures
