use Rattle.std.proofs.Common.{◌≡◌, length}
use Rattle.explanations.proofs.thread_explanations.Paths.{Begins, IsWalk}
use Rattle.explanations.proofs.thread_explanations.cycles.cycle_from.Given as goal

abbrev pub invariant-loop-step : goal.invariant-loop-step
invariant-loop-step l = IsWalk l.waits l.least l.members.items l.at × Begins l.waits l.least l.members.items l.at × (length l.members.items ≡ l.step)
