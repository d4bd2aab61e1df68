use Rattle.std.proofs.Common.{◌≡◌}
use Rattle.race_sweeps.proofs.race_sweeping.RunsRaced.{HasSweptFree}
use Rattle.race_sweeps.proofs.race_sweeping.race_sweep.Given as goal

-- one run is done for each seed below this one, and of what the runs are stays
abbrev pub invariant-seeds : goal.invariant-seeds
invariant-seeds g l = HasSweptFree l.fn.runs l.first l.seed l.tally × (l.runs ≡ l.fn.runs)
