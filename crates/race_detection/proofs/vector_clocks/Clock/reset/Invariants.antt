use Rattle.std.proofs.Common.{◌≡◌, ℕ, ◌<◌, get_or}
use Rattle.race_detection.proofs.vector_clocks.Clock.reset.Given as goal

abbrev pub invariant-threads : goal.invariant-threads
invariant-threads l = (k : ℕ) → k < l.time-index → get_or l.time-items k 0 ≡ 0
