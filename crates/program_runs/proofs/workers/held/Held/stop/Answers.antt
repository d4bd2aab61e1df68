use Rattle.program_runs.proofs.workers.Stays.{after_stop}
use Rattle.program_runs.proofs.workers.held.Held.stop.Goals as goal

pub invariant_of-self : goal.invariant_of-self
invariant_of-self g c =
    after_stop g.J.Given.trees g.J.Given.limits g.J.Given.budget g.J.Given.may_stop c.self.inside.world _ _ c.requires c.self.invariant c.stop.ensures
