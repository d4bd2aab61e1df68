use Rattle.std.proofs.Common.{◌≡◌, ◌-◌, ◌++◌}
use Rattle.method_tables.specs.method_links.Numbers.{places_in}
use Rattle.method_tables.proofs.method_links.numbers.add_places.Given as goal

abbrev pub invariant-loop-member : goal.invariant-loop-member
invariant-loop-member l = l.places.items ++ places_in l.class l.member (l.count - l.member) ≡ l.initial.places.items ++ places_in l.class 0 l.count
