use Rattle.std.proofs.Common.{◌≡◌, ◌++◌, take}
use Rattle.kept_parts.specs.Rows.{flags_row}
use Rattle.kept_parts.proofs.rows.push_flags.Given as goal

abbrev pub invariant-flags : goal.invariant-flags
invariant-flags l = l.row.items ≡ l.fn.row.items ++ flags_row (take l.flag-index l.flags)
