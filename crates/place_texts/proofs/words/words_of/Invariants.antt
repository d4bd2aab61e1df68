use Rattle.std.proofs.Common.{◌≡◌, ◌≤◌, ◌+◌, ◌++◌, drop}
use Rattle.schedule.specs.schedule_text.Text.{text_words, words_from}
use Rattle.place_texts.specs.Reading.{texts}
use Rattle.place_texts.proofs.words.words_of.Given as goal

abbrev pub invariant-bytes : goal.invariant-bytes
invariant-bytes l = record {
  spelled : texts l.words.items ++ words_from l.comment l.word.items (drop l.at l.text) ≡ text_words l.text;
  line : l.line ≤ l.at + 1;
}
