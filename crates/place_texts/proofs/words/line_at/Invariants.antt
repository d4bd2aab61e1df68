use Rattle.std.proofs.Common.{◌≤◌, ◌+◌}
use Rattle.place_texts.proofs.words.line_at.Given as goal

abbrev pub invariant-bytes : goal.invariant-bytes
invariant-bytes l = l.line ≤ l.byte-index + 1
