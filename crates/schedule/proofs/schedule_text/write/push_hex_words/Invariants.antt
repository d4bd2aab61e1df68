use Rattle.std.proofs.Common.{◌≡◌, ◌++◌, map, drop}
use Rattle.schedule.specs.schedule_text.Printing.{in_lines, laid_out}
use Rattle.schedule.specs.schedule_text.Text.{hex_word}
use Rattle.schedule.proofs.schedule_text.write.push_hex_words.Given as goal

abbrev pub invariant-numbers : goal.invariant-numbers
invariant-numbers l = l.text.items ++ laid_out l.place (map hex_word (drop l.place l.numbers)) ≡ l.fn.text.items ++ in_lines (map hex_word l.numbers)
