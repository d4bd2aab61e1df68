use Rattle.std.proofs.Common.{◌≡◌, ◌-◌, length, Some}
use Rattle.model.specs.Classes.{classes_of, is_within, is_subclass}
use Rattle.hierarchy.specs.Places.{place_of, name_at}
use Rattle.hierarchy.proofs.set.ClassSet.is_below_absent.Given as goal

abbrev pub invariant-loop-step : goal.invariant-loop-step
invariant-loop-step l = record {
  stood : place_of l.self (name_at l.self l.place) ≡ Some l.place;
  same : is_within l.self (length (classes_of l.self) - l._step) (name_at l.self l.place) l.name ≡ is_subclass l.self (name_at l.self l.class) l.name;
}
