use Rattle.std.proofs.Common.{◌≡◌, ◌+◌, length, Some}
use Rattle.model.specs.DescriptorScan.{◌>>=◌, name_length}
use Rattle.constant_pool.proofs.descriptors.field.name_length.Given as goal

abbrev pub invariant-bytes : goal.invariant-bytes
invariant-bytes l = record {
  so_far : (name_length l.rest >>= λ n. Some (l.count + n)) ≡ name_length l.fn.text;
  place : l.count + length l.rest ≡ length l.fn.text;
}

abbrev pub decreases-bytes : goal.decreases-bytes
decreases-bytes l = length l.rest
