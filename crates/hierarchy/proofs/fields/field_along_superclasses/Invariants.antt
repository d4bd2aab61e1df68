use Rattle.std.proofs.Common.{◌≡◌, ◌-◌, length, Some}
use Rattle.constant_pool.specs.View.{reference_of}
use Rattle.model.specs.Classes.{classes_of, lineage_of}
use Rattle.model.specs.Lookup.{field_in_class, first_found, find_field}
use Rattle.hierarchy.specs.Places.{place_of, name_at}
use Rattle.hierarchy.specs.MembersAt.{first_near}
use Rattle.hierarchy.proofs.fields.field_along_superclasses.Given as goal

abbrev pub invariant-loop-step : goal.invariant-loop-step
invariant-loop-step l =
    let m = reference_of l.field in
    record {
      stood : place_of l.set (name_at l.set l.class) ≡ Some l.class;
      same : first_found (first_near (field_in_class l.set m) l.set) (lineage_of l.set (length (classes_of l.set) - l._step) (name_at l.set l.class)) ≡ find_field l.set m;
    }
