use Rattle.std.proofs.Common.{◌≤◌, ◌+◌}
use Rattle.schedule.proofs.schedule_text.words.Words.line.Given as goal

abbrev pub invariant-bytes : goal.invariant-bytes
invariant-bytes l = l.line ≤ l.byte-index + 1
