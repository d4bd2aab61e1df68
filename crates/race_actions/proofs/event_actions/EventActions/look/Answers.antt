use Rattle.std.proofs.Common.{◌++◌, refl, ap, subst, ◌∙◌}
use Rattle.next_accesses.specs.next_access.Next.{TellsNext}
use Rattle.race_actions.proofs.event_actions.Adding.{looks_at}
use Rattle.race_actions.proofs.event_actions.EventActions.look.Goals as goal

pub returns : goal.returns
returns c =
    let added = c.in_ok-push_next_accesses.ensures in
    looks_at c.args.tables.now.linked.now c.args.program.now c.args.shared.now c.args.thread _ c.thread_looked_at-self.result c.thread_looked_at-self.ensures refl
    added.0 (added.1 ∙ ap (λ l. l ++ added.0) c.clear.ensures.items)
    (subst (λ files. TellsNext files c.args.program.now c.args.shared.now c.args.thread added.0) c.args.tables.now.accesses_are added.2)
    c.object.result c.object.ensures c.in_ok-waiters_on.ensures
