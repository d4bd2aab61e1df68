use Rattle.std.proofs.Common.{◌++◌, refl}
use Rattle.table_actions.specs.tables.Told.{listed}
use Rattle.race_actions.proofs.event_actions.Adding.{three_added}
use Rattle.race_actions.proofs.event_actions.push_locked.Goals as goal

pub returns : goal.returns
returns c = (
  listed c.locked.result ++ c.args.accesses.now ++ listed c.unlocked.result,
  three_added _ _ _ _ _ _ _ c.in_ok-push.ensures c.in_ok-push_accesses.ensures c.in_ok-push-2.ensures,
  record {
    lock = c.locked.result;
    unlock = c.unlocked.result;
    are = refl;
    monitor = c.monitor_changed-monitor.result;
    changes = c.monitor_changed-monitor.ensures;
    locks = c.locked.ensures;
    unlocks = c.unlocked.ensures;
  },
)
