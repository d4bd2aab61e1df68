use Rattle.std.proofs.Common.{◌≡◌, ◌++◌, length, drop}
use Rattle.model.specs.Classes.{classes_of}
use Rattle.method_tables.specs.method_links.Numbers.{firsts_from, places_from}
use Rattle.method_tables.proofs.method_links.numbers.counted.Given as goal

abbrev pub invariant-loop-class : goal.invariant-loop-class
invariant-loop-class l = record {
  firsts : l.firsts.items ++ firsts_from (length l.places.items) (drop l.class (classes_of l.set)) ≡ firsts_from 0 (classes_of l.set);
  places : l.places.items ++ places_from l.class (drop l.class (classes_of l.set)) ≡ places_from 0 (classes_of l.set);
}
