use Rattle.std.proofs.Common.{◌≡◌, ◌-◌, length, Some}
use Rattle.constant_pool.specs.View.{reference_of}
use Rattle.model.specs.Classes.{classes_of, lineage_of, lineage}
use Rattle.model.specs.Lookup.{method_in_class, first_found}
use Rattle.hierarchy.specs.Places.{place_of, name_at}
use Rattle.hierarchy.specs.Wanted.{wants}
use Rattle.hierarchy.proofs.set.ClassSet.method_above.Given as goal

abbrev pub invariant-loop-step : goal.invariant-loop-step
invariant-loop-step l =
    let found = method_in_class l.self (wants l.wanted) (reference_of l.method) in
    record {
      stood : place_of l.self (name_at l.self l.place) ≡ Some l.place;
      same : first_found found (lineage_of l.self (length (classes_of l.self) - l._step) (name_at l.self l.place)) ≡ first_found found (lineage l.self l.class);
    }
