use Rattle.std.proofs.Common.{subst, arith}
use Rattle.std.proofs.lemmas.List.{take_all}
use Rattle.race_runs.specs.finder.Events.{Watched}
use Rattle.race_runs.proofs.finder.Watching.{none_watched, one_watched}
use Rattle.race_runs.proofs.finder.watch_all.Goals as goal

pub actions-init : goal.actions-init
actions-init c = none_watched c.args.thread c.args.site c.args.actions.now c.args.races.now

pub actions-preserved : goal.actions-preserved
actions-preserved c =
    one_watched c.args.thread c.args.site c.args.actions.now c.actions.action-index c.args.races.now c.actions.races c.watch.new.self c.actions.invariant _ c.actions-test.true c.label_at.result
    c.label_at.ensures c.in_ok-watch.ensures

pub returns : goal.returns
returns c =
    subst (λ l. Watched c.args.thread c.args.site l c.args.races.now c.actions.races) (take_all c.actions.action-index c.args.actions.now (omega (arith, c.actions-test.false))) c.actions.invariant
