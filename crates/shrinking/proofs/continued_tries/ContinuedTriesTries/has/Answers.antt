use Rattle.std.proofs.Common.{◌∙◌, ap, subst}
use Rattle.std.specs.Prelude.{IsTrue}
use Rattle.model.specs.Classes.{Program}
use Rattle.model.specs.Schedule.{events_of}
use Rattle.program_runs.specs.continued_runs.Continuing.{GoesOn}
use Rattle.shrinking.specs.Shrunk.{ComesTo, TriesFor}
use Rattle.shrinking.proofs.Budgets.{has_by, lacks_by, lacks_other}
use Rattle.shrinking.proofs.continued_tries.ContinuedTriesTries.has.Goals as goal

pub returns-then-comes_to-clause-yes : goal.returns-then-comes_to-clause-yes
returns-then-comes_to-clause-yes c =
    let run = c.in_ok-run.run' in
    let events = events_of c.args.schedule.now in
    let inside = c.self.inside in
    let goes = subst (λ (for : TriesFor). GoesOn for.trees events for.limits for.budget run) c.self.view_is
    (subst (λ (trees : Program). GoesOn trees events inside.limits inside.budget run) c.in_ok-verified.ensures c.in_ok-run.ensures) in
    let wanted = subst (λ (for : TriesFor). ComesTo for.want run) c.self.view_is (c.in_ok-comes_to.ensures.0 c.if-comes_to.true) in
    let budget = c.from.ensures ∙ ap (λ (for : TriesFor). for.budget) c.self.view_is in
    has_by c.args.self.now events run goes c.count.result c.from.result c.count.ensures budget wanted

pub returns-then-comes_to-clause-no : goal.returns-then-comes_to-clause-no
returns-then-comes_to-clause-no c =
    let run = c.in_ok-run.run' in
    let events = events_of c.args.schedule.now in
    let inside = c.self.inside in
    let goes = subst (λ (for : TriesFor). GoesOn for.trees events for.limits for.budget run) c.self.view_is
    (subst (λ (trees : Program). GoesOn trees events inside.limits inside.budget run) c.in_ok-verified.ensures c.in_ok-run.ensures) in
    let budget = c.from.ensures ∙ ap (λ (for : TriesFor). for.budget) c.self.view_is in
    lacks_by c.args.self.now events run goes c.count.result c.from.result c.count.ensures budget

pub returns-else-comes_to-clause-no : goal.returns-else-comes_to-clause-no
returns-else-comes_to-clause-no c =
    let run = c.in_ok-run.run' in
    let events = events_of c.args.schedule.now in
    let inside = c.self.inside in
    let goes = subst (λ (for : TriesFor). GoesOn for.trees events for.limits for.budget run) c.self.view_is
    (subst (λ (trees : Program). GoesOn trees events inside.limits inside.budget run) c.in_ok-verified.ensures c.in_ok-run.ensures) in
    let comes = subst (λ (for : TriesFor). ComesTo for.want run → IsTrue c.in_ok-comes_to.comes_to) c.self.view_is c.in_ok-comes_to.ensures.1 in
    lacks_other c.args.self.now events run goes c.in_ok-comes_to.comes_to comes
