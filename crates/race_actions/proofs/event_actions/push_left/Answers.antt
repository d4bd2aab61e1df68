use Rattle.std.proofs.Common.{◌++◌, refl}
use Rattle.table_actions.specs.tables.Told.{listed}
use Rattle.race_actions.proofs.event_actions.Adding.{four_added}
use Rattle.race_actions.proofs.event_actions.push_left.Goals as goal

pub returns : goal.returns
returns c = (
  listed c.started.result ++ listed c.args.before.interrupt ++ listed c.cleared.result ++ listed c.finished_class.result,
  four_added _ _ _ _ _ _ _ _ _ c.in_ok-push.ensures c.in_ok-push-2.ensures c.in_ok-push-3.ensures c.in_ok-push-4.ensures,
  record {
    start = c.started.result;
    clear = c.cleared.result;
    finish = c.finished_class.result;
    are = refl;
    starts = c.started.ensures;
    clears = c.cleared.ensures;
    finishes = c.finished_class.ensures;
  },
)
