use Rattle.std.proofs.Common.{◌≡◌, drop, take}
use Rattle.std.specs.Prelude.{false}
use Rattle.schedule.specs.schedule_text.Text.{words_from, words_of}
use Rattle.schedule.proofs.schedule_text.words.word_length.Given as goal

abbrev pub invariant-word : goal.invariant-word
invariant-word l = words_from false (take l.at l.bytes) (drop l.at l.bytes) ≡ words_of l.bytes
