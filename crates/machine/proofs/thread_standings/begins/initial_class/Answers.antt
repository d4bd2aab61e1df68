use Rattle.std.proofs.Common.{sym}
use Rattle.model.specs.Names.{main_of}
use Rattle.model.specs.Step.{initial_class}
use Rattle.machine_threads.proofs.thread_begins.Rows.{missing}
use Rattle.machine_threads.proofs.thread_begins.Placed.{class_at}
use Rattle.machine.proofs.thread_standings.begins.initial_class.Goals as goal

pub returns-in-Some : goal.returns-in-Some
returns-in-Some c = λ trees program. class_at c.methods_are_read.ensures.holds trees c.args.program.now program c.in-Some.row.now (sym c.in-Some.ensures)

pub returns-in-None : goal.returns-in-None
returns-in-None c = λ trees program.
    let p = c.args.program.now in
    missing c.methods_are_read.ensures.holds trees p program p.main (main_of (initial_class trees)) program.linked.main (sym c.in-None.ensures)
