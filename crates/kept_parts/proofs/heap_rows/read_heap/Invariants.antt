use Rattle.kept_parts.proofs.Numbers.{AreRead}
use Rattle.kept_parts.proofs.heap_rows.read_heap.Given as goal

abbrev pub invariant-numbers : goal.invariant-numbers
invariant-numbers l = AreRead l.parts l.fn.limits l.opening l.place l.numbers l.fat l.heap
