use Rattle.std.proofs.Common.{◌≡◌, sym, subst, map, refl}
use Rattle.race_places.specs.declared.run_actions.Action.TheVariants as action
use Rattle.race_places.specs.named_actions.Names.{named_action}
use Rattle.data_races.specs.Actions.{Lock}
use Rattle.data_races.specs.EventActions.{besides, owned_from}
use Rattle.table_actions.specs.tables.Told.{listed}
use Rattle.table_actions.proofs.tables.Owned.{change_told}
use Rattle.table_actions.proofs.changes.locked.Goals as goal

pub returns : goal.returns
returns c old rest was names =
    let new = c.args.heap.now.locks.monitors in
    let t = c.args.thread in
    subst (λ told. map (named_action names) (listed told) ≡ map Lock (besides (owned_from t 0 new) (owned_from t 0 old))) (sym c.lock_by.ensures)
    (change_told t new old (λ n. action.Lock n) (λ n. Lock n) names (λ n. refl) c.args.object c.args.was_owner c.owns.result rest was c.owns.ensures)
