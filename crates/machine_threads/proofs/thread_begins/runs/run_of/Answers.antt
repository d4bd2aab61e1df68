use Rattle.machine_threads.proofs.thread_begins.Declared.{run_found}
use Rattle.machine_threads.proofs.thread_begins.runs.run_of.Goals as goal

pub returns-in-Some-clause-run : goal.returns-in-Some-clause-run
returns-in-Some-clause-run c = λ trees program heap shows instance.
    run_found c.methods_are_read.ensures.holds trees c.args.program.now program c.in-Some.method _ (c.in-Some.ensures trees program heap shows instance) c.args.object c.callee_at.result c.callee_at.ensures.callee

pub returns-in-None-clause-run : goal.returns-in-None-clause-run
returns-in-None-clause-run c = λ trees program heap shows instance. absurd (c.in-None.ensures trees program heap shows instance)
