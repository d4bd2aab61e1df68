use Rattle.std.proofs.Common.{sym}
use Rattle.machine_threads.proofs.thread_begins.Rows.{missing}
use Rattle.machine_threads.proofs.thread_begins.Calling.{main}
use Rattle.machine_threads.proofs.thread_begins.Placed.{class_at}
use Rattle.machine_threads.proofs.thread_begins.initial.initial_class.Goals as goal

pub unreachable-requires : goal.unreachable-requires
unreachable-requires c =
    let p = c.args.program.now in
    let of = c.requires.of in
    missing c.methods_are_read.ensures.holds of.0 p of.1 p.main (main of.0) of.1.linked.main (sym c.in-None.ensures)

pub returns : goal.returns
returns c = λ trees program. class_at c.methods_are_read.ensures.holds trees c.args.program.now program c.in-Some.row.now (sym c.in-Some.ensures)
