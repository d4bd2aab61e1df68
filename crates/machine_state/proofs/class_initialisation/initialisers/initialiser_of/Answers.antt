use Rattle.machine_state.proofs.class_initialisation.Rows.{chosen}
use Rattle.machine_state.proofs.class_initialisation.initialisers.initialiser_of.Goals as goal

pub returns-in-Some-clause-initialiser : goal.returns-in-Some-clause-initialiser
returns-in-Some-clause-initialiser c = λ trees program class at.
    chosen trees c.args.program.now class c.in-Some.method c.callee_at.result (c.in-Some.ensures trees program class at)
    (λ method code. c.callee_at.ensures.callee trees program method code)
