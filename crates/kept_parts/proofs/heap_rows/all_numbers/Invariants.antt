use Rattle.std.proofs.Common.{◌≤◌, ◌-◌, length}
use Rattle.std.specs.Prelude.{IfSome}
use Rattle.word_table.specs.Lists.{Grows}
use Rattle.kept_parts.specs.Heaps.{AreFirst, AreBefore}
use Rattle.kept_parts.proofs.heap_rows.all_numbers.Given as goal

abbrev pub invariant-objects : goal.invariant-objects
invariant-objects l = record {
  grows : Grows l.fn.parts l.parts;
  within : l.object ≤ length l.heap.objects;
  first : AreFirst l.parts l.numbers.items l.object l.heap;
  before : IfSome l.before (AreBefore l.parts);
}

abbrev pub decreases-objects : goal.decreases-objects
decreases-objects l = l.count - l.object
