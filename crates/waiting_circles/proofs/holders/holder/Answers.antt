use Rattle.std.proofs.Common.{sym, subst}
use Rattle.std.proofs.lemmas.Option.{same_Some}
use Rattle.search_laws.specs.Waits.{Need, MonitorOf, ClassOf}
use Rattle.waiting_circles.specs.declared.needs.kinds.Need.{Need as TheNeed}
use Rattle.waiting_circles.specs.Holders.{IsHeldOnlyBy, IsHolder}
use Rattle.waiting_circles.proofs.holders.Held.{owned, initialised}
use Rattle.waiting_circles.proofs.holders.holder.Goals as goal

pub returns-in-Monitor : goal.returns-in-Monitor
returns-in-Monitor c =
    subst (λ (n : TheNeed). IsHolder c.args.shared.now n c.owner_of.result) (sym c.in-Monitor.is)
    (λ trees p bounds world program r is told.
    subst (λ (n : Need). IsHeldOnlyBy world n c.owner_of.result) (sym (same_Some is (MonitorOf c.in-Monitor.object) told))
    (owned world c.owner_of.result c.in-Monitor.object c.args.shared.now.heap.locks.monitors r.world_is.monitors c.owner_of.ensures))

pub returns-in-Class : goal.returns-in-Class
returns-in-Class c =
    subst (λ (n : TheNeed). IsHolder c.args.shared.now n c.initiator_of.result) (sym c.in-Class.is)
    (λ trees p bounds world program r is told.
    subst (λ (n : Need). IsHeldOnlyBy world n c.initiator_of.result) (sym (same_Some is (ClassOf told.0) told.2))
    (initialised world c.initiator_of.result told.0 (c.initiator_of.ensures trees p bounds world program r told.0 told.1)))
