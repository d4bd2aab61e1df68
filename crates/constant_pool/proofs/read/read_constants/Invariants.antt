use Rattle.std.proofs.Common.{◌≡◌}
use Rattle.constant_pool.specs.View.{entries_of}
use Rattle.constant_pool.specs.PoolReading.{entries_at}
use Rattle.constant_pool.proofs.reading.Loop.{with_front}
use Rattle.constant_pool.proofs.read.read_constants.Given as goal

abbrev pub invariant-places : goal.invariant-places
invariant-places l = with_front (entries_of l.constants.items) (entries_at l.left l.reader) ≡ entries_at l.places l.fn.reader

abbrev pub decreases-places : goal.decreases-places
decreases-places l = l.left
