use Rattle.std.proofs.Common.{◌≡◌, take}
use Rattle.kept_parts.specs.Rows.{flags_row}
use Rattle.kept_parts.proofs.rows.read_flags.Given as goal

abbrev pub invariant-words : goal.invariant-words
invariant-words l = take l.word-index l.row ≡ flags_row l.flags.items
