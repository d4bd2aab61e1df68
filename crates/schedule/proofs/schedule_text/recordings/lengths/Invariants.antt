use Rattle.std.proofs.Common.{length}
use Rattle.schedule.proofs.schedule_text.LengthLaws.{AreLengthsAhead}
use Rattle.schedule.proofs.schedule_text.recordings.lengths.Given as goal

abbrev pub invariant-lengths : goal.invariant-lengths
invariant-lengths l = AreLengthsAhead l.fn.words l.lengths.items l.words

abbrev pub decreases-lengths : goal.decreases-lengths
decreases-lengths l = length l.words
