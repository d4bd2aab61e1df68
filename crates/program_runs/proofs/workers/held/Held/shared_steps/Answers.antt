use Rattle.program_runs.proofs.workers.Stays.{after_turn}
use Rattle.program_runs.proofs.workers.held.Held.shared_steps.Goals as goal

pub invariant_of-self : goal.invariant_of-self
invariant_of-self g c =
    after_turn g.J.Given.trees g.J.Given.limits g.J.Given.budget g.J.Given.may_stop c.self.inside.world _ c.args.from c.args.most _ _ c.self.invariant c.shared_steps.ensures
