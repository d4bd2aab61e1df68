use Rattle.std.proofs.Common.{◌≡◌, false, length}
use Rattle.constant_pool.specs.descriptors.Scan.{joined}
use Rattle.constant_pool.proofs.descriptors.name.are_joined.Given as goal

abbrev pub invariant-bytes : goal.invariant-bytes
invariant-bytes l = joined l.is_begun l.rest ≡ joined false l.fn.text

abbrev pub decreases-bytes : goal.decreases-bytes
decreases-bytes l = length l.rest
