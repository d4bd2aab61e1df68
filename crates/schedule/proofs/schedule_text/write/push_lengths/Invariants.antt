use Rattle.std.proofs.Common.{◌≡◌, ◌++◌, map, drop, decimal}
use Rattle.schedule.specs.schedule_text.Printing.{in_lines, laid_out}
use Rattle.schedule.proofs.schedule_text.write.push_lengths.Given as goal

abbrev pub invariant-lengths : goal.invariant-lengths
invariant-lengths l = l.text.items ++ laid_out l.place (map decimal (drop l.place l.lengths)) ≡ l.fn.text.items ++ in_lines (map decimal l.lengths)
