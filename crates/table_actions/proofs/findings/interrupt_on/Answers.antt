use Rattle.data_races.specs.EventActions.{interrupts_on}
use Rattle.table_actions.specs.tables.Told.{interrupt_of, listed}
use Rattle.linked_code.specs.declared.method.BuiltInMethod.TheVariants as called
use Rattle.table_actions.proofs.tables.Findings.{by_method, at_number}
use Rattle.table_actions.proofs.findings.interrupt_on.Goals as goal

pub returns-in-Some : goal.returns-in-Some
returns-in-Some c =
    by_method c.args.heap.now c.args.threads.now (listed c.interrupt_of.result) (λ world m. interrupts_on world c.args.object m) c.args.built_in called.ThreadInterrupt
    c.in-ThreadInterrupt.is
    (at_number c.args.heap.now c.args.threads.now c.args.object c.in-Some.other c.in-Some.ensures (λ world u. interrupt_of world u) (listed c.interrupt_of.result)
    c.interrupt_of.ensures)
