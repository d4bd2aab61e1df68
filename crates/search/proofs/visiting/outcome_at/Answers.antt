use Rattle.std.proofs.Common.{subst}
use Rattle.search.specs.Machines.{TellsOutcome}
use Rattle.search.proofs.Walks.{none_told, outcome_told}
use Rattle.search.proofs.visiting.outcome_at.Goals as goal

pub returns-then-walk : goal.returns-then-walk
returns-then-walk c = none_told c.args.asked.now.linked.now c.args.walk.now c.moving_states_are_not_quiet.ensures.holds c.if-walk.true

pub returns : goal.returns
returns c =
    let outcome = c.in_ok-outcome.outcome in
    outcome_told c.args.asked.now.linked.now c.args.walk.now outcome (subst (λ trees. TellsOutcome trees c.args.walk.now.machine outcome) c.set.ensures.same c.in_ok-outcome.ensures)
