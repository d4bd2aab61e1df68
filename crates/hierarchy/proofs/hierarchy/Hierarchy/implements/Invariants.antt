use Rattle.std.proofs.Common.{◌≡◌, ◌-◌, length}
use Rattle.std.specs.List.{flat_map, list_any}
use Rattle.model.specs.Names.{name_eq}
use Rattle.model.specs.Classes.{classes_of, lineage_of, interfaces_above, all_superinterfaces}
use Rattle.hierarchy.proofs.hierarchy.Hierarchy.implements.Given as goal

abbrev pub invariant-loop-step : goal.invariant-loop-step
invariant-loop-step l =
    list_any (λ i. name_eq i l.interface) (flat_map (interfaces_above l.self) (lineage_of l.self (length (classes_of l.self) - l._step) l.class)) ≡ list_any (λ i. name_eq i l.interface) (all_superinterfaces l.self l.initial.class)
