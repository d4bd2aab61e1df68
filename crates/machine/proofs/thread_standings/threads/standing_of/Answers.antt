use Rattle.machine.proofs.thread_standings.States.{stands_so, no_thread_there}
use Rattle.machine.proofs.thread_standings.threads.standing_of.Goals as goal

pub returns-in-Some : goal.returns-in-Some
returns-in-Some c =
    stands_so c.args.program.now c.args.shared.now c.args.thread c.args.frames c.in-Some.stack.now c.thread_standing.result c.in-Some.ensures c.thread_standing.ensures

pub returns-in-None : goal.returns-in-None
returns-in-None c = λ trees bounds inflated state program shown thread there.
    absurd (no_thread_there trees c.args.program.now bounds inflated c.args.shared.now state shown c.args.thread c.in-None.ensures thread there)
