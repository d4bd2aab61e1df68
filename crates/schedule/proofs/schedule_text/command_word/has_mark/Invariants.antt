use Rattle.std.proofs.Common.{◌≡◌, drop}
use Rattle.schedule.specs.schedule_text.CommandWord.{has, is_mark}
use Rattle.schedule.proofs.schedule_text.command_word.has_mark.Given as goal

abbrev pub invariant-bytes : goal.invariant-bytes
invariant-bytes l = has is_mark (drop l.at l.word) ≡ has is_mark l.word
