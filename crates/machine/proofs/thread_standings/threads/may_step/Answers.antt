use Rattle.machine.proofs.thread_standings.States.{may_so, none_may}
use Rattle.machine.proofs.thread_standings.threads.may_step.Goals as goal

pub returns-in-Some : goal.returns-in-Some
returns-in-Some c =
    may_so c.args.program.now c.args.shared.now c.args.thread c.args.frames _ c.standing_of.result c.is_runnable.result c.in-Some.ensures c.standing_of.ensures c.is_runnable.ensures

pub returns-in-None : goal.returns-in-None
returns-in-None c = λ trees bounds inflated state program shown.
    none_may trees c.args.program.now bounds inflated c.args.shared.now state shown c.args.thread c.args.frames c.in-None.ensures
