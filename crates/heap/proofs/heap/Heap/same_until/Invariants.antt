use Rattle.std.proofs.Common.{ℕ, ◌-◌, ◌<◌, ◌≤◌, length}
use Rattle.heap.specs.Heap.{IsSameAt}
use Rattle.heap.proofs.heap.Heap.same_until.Given as goal

abbrev pub invariant-objects : goal.invariant-objects
invariant-objects l = record {
  same : (object : ℕ) → l.from ≤ object → object < l.object → IsSameAt object l.self l.other;
  from : l.from ≤ l.object;
  there : l.from ≤ length l.self.objects → l.object ≤ length l.self.objects;
  both : l.from ≤ length l.other.objects → l.object ≤ length l.other.objects;
}

abbrev pub decreases-objects : goal.decreases-objects
decreases-objects l = l.count - l.object
