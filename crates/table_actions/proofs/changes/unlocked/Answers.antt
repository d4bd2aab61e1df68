use Rattle.std.proofs.Common.{◌≡◌, sym, subst, map, refl}
use Rattle.race_places.specs.declared.run_actions.Action.TheVariants as action
use Rattle.race_places.specs.named_actions.Names.{named_action}
use Rattle.data_races.specs.Actions.{Unlock}
use Rattle.data_races.specs.EventActions.{besides, owned_from}
use Rattle.table_actions.specs.tables.Told.{listed}
use Rattle.table_actions.proofs.tables.Owned.{change_told}
use Rattle.table_actions.proofs.changes.unlocked.Goals as goal

pub returns : goal.returns
returns c old rest was names =
    let new = c.args.heap.now.locks.monitors in
    let t = c.args.thread in
    subst (λ told. map (named_action names) (listed told) ≡ map Unlock (besides (owned_from t 0 old) (owned_from t 0 new))) (sym c.unlock_by.ensures)
    (change_told t old new (λ n. action.Unlock n) (λ n. Unlock n) names (λ n. refl) c.args.object c.owns.result c.args.was_owner (λ n e. sym (rest n e)) c.owns.ensures was)
