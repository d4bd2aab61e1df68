use Rattle.std.proofs.Common.{◌≡◌, drop}
use Rattle.schedule.specs.schedule_text.CommandWord.{has, is_comment_mark}
use Rattle.schedule.proofs.schedule_text.command_word.has_comment_mark.Given as goal

abbrev pub invariant-bytes : goal.invariant-bytes
invariant-bytes l = has is_comment_mark (drop l.at l.word) ≡ has is_comment_mark l.word
