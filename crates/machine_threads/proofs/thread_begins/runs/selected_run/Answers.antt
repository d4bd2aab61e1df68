use Rattle.machine_threads.proofs.thread_begins.Selecting.{missing, run_selected}
use Rattle.machine_threads.proofs.thread_begins.runs.selected_run.Goals as goal

pub returns-in-Some : goal.returns-in-Some
returns-in-Some c = λ trees program heap shows object.
    run_selected trees c.args.program.now program c.args.heap.now.objects heap shows c.args.object object c.in-Some.kind c.in-Some.ensures c.class_of_kind.result c.class_of_kind.ensures c.select_virtual.result c.select_virtual.ensures

pub returns-in-None : goal.returns-in-None
returns-in-None c = λ trees program heap shows object. absurd (missing trees c.args.program.now program c.args.heap.now.objects heap shows c.args.object object c.in-None.ensures)
