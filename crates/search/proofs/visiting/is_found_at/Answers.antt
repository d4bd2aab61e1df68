use Rattle.std.proofs.Common.{subst}
use Rattle.search.specs.StateKinds.{TellsWith, AreKindsOf}
use Rattle.search.proofs.Walks.{shows}
use Rattle.search.proofs.visiting.is_found_at.Goals as goal

pub returns : goal.returns
returns c =
    let outcome = c.in_ok-outcome.outcome in
    let kinds = c.in_ok-kinds.kinds in
    let told = subst (λ trees. TellsWith trees c.args.walk.now.machine outcome (λ trees frames state. AreKindsOf trees frames state kinds)) c.requires c.in_ok-kinds.ensures in
    (outcome, kinds, (shows c.args.asked.now.linked.now c.args.walk.now outcome kinds c.in_ok-outcome.ensures told, c.in_ok-found.ensures, c.first_race-states.ensures))
