use Rattle.std.proofs.Common.{length}
use Rattle.schedule.proofs.schedule_text.CommandLaws.{AreSoFar}
use Rattle.schedule.specs.schedule_text.Text.{text_words}
use Rattle.schedule.proofs.schedule_text.command_word.is_schedule_word.Given as goal

abbrev pub invariant-words : goal.invariant-words
invariant-words l = AreSoFar (text_words l.word) l.has_some l.words

abbrev pub decreases-words : goal.decreases-words
decreases-words l = length l.words
