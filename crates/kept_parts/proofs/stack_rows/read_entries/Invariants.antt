use Rattle.std.proofs.Common.{◌≡◌, ◌++◌, length}
use Rattle.kept_parts.specs.Stacks.{entries_row}
use Rattle.kept_parts.proofs.stack_rows.read_entries.Given as goal

abbrev pub invariant-entries : goal.invariant-entries
invariant-entries l = record {
  many : length l.entries.items ≡ l._read;
  row : l.fn.reader.rest.now ≡ entries_row l.entries.items ++ l.reader.rest.now;
}
