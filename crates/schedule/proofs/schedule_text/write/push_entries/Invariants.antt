use Rattle.std.proofs.Common.{◌≡◌, ◌++◌, map, drop}
use Rattle.schedule.specs.schedule_text.Printing.{in_lines, laid_out}
use Rattle.schedule.specs.schedule_text.Text.{entry_word}
use Rattle.schedule.proofs.schedule_text.write.push_entries.Given as goal

abbrev pub invariant-entries : goal.invariant-entries
invariant-entries l = l.text.items ++ laid_out l.place (map entry_word (drop l.place l.entries)) ≡ l.fn.text.items ++ in_lines (map entry_word l.entries)
