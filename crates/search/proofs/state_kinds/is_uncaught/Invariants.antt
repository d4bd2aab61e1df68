use Rattle.std.proofs.Common.{◌<◌, false, ℕ}
use Rattle.search.proofs.Uncaught.{HasThrownAt}
use Rattle.search.proofs.state_kinds.is_uncaught.Given as goal

abbrev pub invariant-threads : goal.invariant-threads
invariant-threads l = (t : ℕ) → t < l.thread → HasThrownAt l.fn.machine.shared.threads.threads t false
