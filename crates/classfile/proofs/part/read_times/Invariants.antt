use Rattle.std.proofs.Common.{◌≡◌, ◌-◌, map}
use Rattle.constant_pool.specs.reading.Reading.{times_at}
use Rattle.constant_pool.proofs.reading.Loop.{with_front}
use Rattle.classfile.proofs.part.read_times.Given as goal

abbrev pub invariant-parts : goal.invariant-parts
invariant-parts g l =
    let read = g.T.Part.read_at l.pool l.owner in
    with_front (map g.T.Part.view l.parts.items) (times_at read (l.count - l.counter) l.reader) ≡ times_at read l.count l.fn.reader
