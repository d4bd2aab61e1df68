use Rattle.std.proofs.Common.{◌≡◌, ◌-◌, length}
use Rattle.std.specs.List.{flat_map}
use Rattle.constant_pool.specs.View.{reference_of}
use Rattle.model.specs.Classes.{classes_of, lineage_of, interfaces_above, all_superinterfaces}
use Rattle.model.specs.Lookup.{method_in_class, any_method, first_found}
use Rattle.hierarchy.proofs.hierarchy.Hierarchy.method_along_superclasses.Given as goal

abbrev pub invariant-loop-step : goal.invariant-loop-step
invariant-loop-step l =
    let found = method_in_class l.self any_method (reference_of l.method) in
    first_found found (flat_map (interfaces_above l.self) (lineage_of l.self (length (classes_of l.self) - l._step) l.class)) ≡ first_found found (all_superinterfaces l.self l.initial.class)
