use Rattle.data_races.specs.EventActions.{found_on, found_own}
use Rattle.table_actions.specs.tables.Told.{all_found, listed}
use Rattle.linked_code.specs.declared.method.BuiltInMethod.TheVariants as called
use Rattle.table_actions.proofs.tables.Findings.{by_method, told_so, on_some, on_none}
use Rattle.table_actions.proofs.findings.findings_on.Goals as goal

pub returns-in-ObjectWait : goal.returns-in-ObjectWait
returns-in-ObjectWait c =
    by_method c.args.heap.now c.args.threads.now (all_found c.wait_findings.result) (λ world m. found_on world c.args.thread c.args.object m) c.args.built_in called.ObjectWait
    c.in-ObjectWait.is c.wait_findings.ensures

pub returns-in-ThreadInterrupted : goal.returns-in-ThreadInterrupted
returns-in-ThreadInterrupted c =
    by_method c.args.heap.now c.args.threads.now (all_found c.of_own.result) (λ world m. found_on world c.args.thread c.args.object m) c.args.built_in called.ThreadInterrupted
    c.in-ThreadInterrupted.is
    (told_so c.args.heap.now c.args.threads.now (all_found c.of_own.result) (listed c.interrupt_found.result) (λ world. found_own world c.args.thread) c.of_own.ensures
    c.interrupt_found.ensures)

pub returns-in-Some : goal.returns-in-Some
returns-in-Some c =
    on_some c.args.heap.now c.args.threads.now (all_found c.findings_of.result) c.args.thread c.args.object c.in-Some.other c.args.built_in c.in-Some.ensures
    c.in_default.not-ObjectWait c.in_default.not-ThreadInterrupted c.findings_of.ensures

pub returns-in-None : goal.returns-in-None
returns-in-None c =
    on_none c.args.heap.now c.args.threads.now (all_found c.of_own-in-None.result) c.args.thread c.args.object c.args.built_in c.in-None.ensures
    c.in_default.not-ObjectWait c.in_default.not-ThreadInterrupted c.of_own-in-None.ensures
