use Rattle.std.proofs.Common.{◌≡◌, ◌++◌, length, map}
use Rattle.std.specs.Prelude.{vec_items}
use Rattle.std.specs.Vec.Iter.{into_iter_items, into_iter_len}
use Rattle.linked_program.specs.linked_calls.Selections.{places_of, selectors_of}
use Rattle.linked_program.proofs.linked_calls.selections.selections_by.Given as goal

abbrev pub invariant-loop-class : goal.invariant-loop-class
invariant-loop-class l = record {
  count : length l.selections.items ≡ l._class;
  places_left : into_iter_len l.places ≡ length (into_iter_items l.places);
  selectors_left : into_iter_len l.selectors ≡ length (into_iter_items l.selectors);
  places : map places_of l.selections.items ++ map vec_items (into_iter_items l.places) ≡ map vec_items l.fn.by_place.items;
  selectors : map selectors_of l.selections.items ++ map vec_items (into_iter_items l.selectors) ≡ map vec_items l.fn.by_selector.items;
}
