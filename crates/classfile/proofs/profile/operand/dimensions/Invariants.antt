use Rattle.std.proofs.Common.{◌≡◌, ◌+◌, length}
use Rattle.model.specs.DescriptorScan.{dimensions_of}
use Rattle.classfile.proofs.profile.operand.dimensions.Given as goal

abbrev pub invariant-bytes : goal.invariant-bytes
invariant-bytes l = record {
  so_far : l.count + dimensions_of l.rest ≡ dimensions_of l.fn.name;
  place : l.count + length l.rest ≡ length l.fn.name;
}

abbrev pub decreases-bytes : goal.decreases-bytes
decreases-bytes l = length l.rest
