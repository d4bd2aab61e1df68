use Rattle.std.proofs.Common.{◌≡◌, ◌≤◌, ◌+◌, drop, length}
use Rattle.model.specs.Schedule.{events_of}
use Rattle.schedule.proofs.growing_text.parts.seam.Given as goal

abbrev pub invariant-back : goal.invariant-back
invariant-back l = (l.at ≤ length l.entries) × (l.left + length (events_of (drop l.at l.entries)) ≡ l.last)

abbrev pub decreases-back : goal.decreases-back
decreases-back l = l.at
