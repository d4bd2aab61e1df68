use Rattle.std.proofs.Common.{length}
use Rattle.schedule.proofs.schedule_text.EntryLaws.{AreAhead}
use Rattle.schedule.proofs.schedule_text.entries.entries.Given as goal

abbrev pub invariant-entries : goal.invariant-entries
invariant-entries l = AreAhead l.fn.words l.entries.items l.words

abbrev pub decreases-entries : goal.decreases-entries
decreases-entries l = length l.words
