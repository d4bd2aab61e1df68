use Rattle.std.proofs.Common.{◌≡◌, ◌++◌, take}
use Rattle.kept_parts.specs.Stacks.{entries_row}
use Rattle.kept_parts.proofs.entry_rows.push_entries.Given as goal

abbrev pub invariant-entries : goal.invariant-entries
invariant-entries l = l.row.items ≡ l.fn.row.items ++ entries_row (take l.entry-index l.entries)
