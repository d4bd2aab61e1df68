use Rattle.std.proofs.Common.{◌≡◌, ◌-◌}
use Rattle.schedule.specs.Reading.{entry_at, many_at}
use Rattle.schedule.proofs.Loop.{with_front}
use Rattle.schedule.proofs.read.read_entries.Given as goal

abbrev pub invariant-entries : goal.invariant-entries
invariant-entries l = with_front l.entries.items (many_at entry_at (l.count - l.counter) l.reader) ≡ many_at entry_at l.count l.fn.reader
