use Rattle.std.proofs.Common.{◌≡◌, ◌+◌, length}
use Rattle.model.specs.DescriptorScan.{dimensions_of}
use Rattle.constant_pool.proofs.descriptors.field.dimensions.Given as goal

abbrev pub invariant-bytes : goal.invariant-bytes
invariant-bytes l = record {
  so_far : l.count + dimensions_of l.rest ≡ dimensions_of l.fn.text;
  place : l.count + length l.rest ≡ length l.fn.text;
}

abbrev pub decreases-bytes : goal.decreases-bytes
decreases-bytes l = length l.rest
