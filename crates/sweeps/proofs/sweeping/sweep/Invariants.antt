use Rattle.std.proofs.Common.{◌≡◌}
use Rattle.sweeps.specs.Policies.{IsRunWith}
use Rattle.sweeps.proofs.RunsSwept.{HasSwept}
use Rattle.sweeps.proofs.sweeping.sweep.Given as goal

-- one run is done for each seed below this one, and of what the runs are stays
abbrev pub invariant-seeds : goal.invariant-seeds
invariant-seeds g l = HasSwept (IsRunWith l.fn.runs) l.wanted l.first l.seed l.tally × (l.runs ≡ l.fn.runs)
