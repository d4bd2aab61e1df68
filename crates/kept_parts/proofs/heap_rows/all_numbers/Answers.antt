use Rattle.kept_parts.proofs.Numbers.{grows_on, before_stays}
use Rattle.kept_parts.proofs.heap_rows.all_numbers.Goals as goal

pub objects-preserved : goal.objects-preserved
objects-preserved c = record {
  grows = grows_on c.args.parts.now c.objects.parts c.next_numbers.new.parts c.objects.invariant.grows c.in_ok-object.ensures.grows;
  within = c.in_ok-object.ensures.within;
  first = c.in_ok-object.ensures.first;
  before = before_stays c.objects.parts c.next_numbers.new.parts c.args.before c.in_ok-object.ensures.grows c.objects.invariant.before;
}
