use Rattle.race_runs.proofs.finder.Watching.{WatchedFirst}
use Rattle.race_runs.proofs.finder.watch_all.Given as goal

abbrev pub invariant-actions : goal.invariant-actions
invariant-actions l = WatchedFirst l.thread l.site l.actions l.action-index l.fn.races l.races
