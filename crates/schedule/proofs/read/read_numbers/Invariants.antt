use Rattle.std.proofs.Common.{◌≡◌, ◌-◌}
use Rattle.schedule.specs.Reading.{number_at, many_at}
use Rattle.schedule.proofs.Loop.{with_front}
use Rattle.schedule.proofs.read.read_numbers.Given as goal

abbrev pub invariant-numbers : goal.invariant-numbers
invariant-numbers l = with_front l.numbers.items (many_at (number_at 8) (l.count - l.counter) l.reader) ≡ many_at (number_at 8) l.count l.fn.reader
