use Rattle.model.specs.Step.{initial_class}
use Rattle.machine.proofs.thread_standings.begins.is_main_held.Goals as goal

pub returns-in-Some : goal.returns-in-Some
returns-in-Some c = λ trees bounds world program r.
    c.is_held.ensures trees c.args.program.now bounds world program r (initial_class trees) (c.in-Some.ensures trees program)

pub returns-in-None : goal.returns-in-None
returns-in-None c = λ trees bounds world program r. absurd (c.in-None.ensures trees program)
