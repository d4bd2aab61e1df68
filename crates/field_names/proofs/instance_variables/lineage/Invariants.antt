use Rattle.std.proofs.Common.{◌≡◌, ◌++◌, ◌-◌, length, map}
use Rattle.model.specs.Classes.{classes_of, lineage, lineage_of}
use Rattle.field_names.proofs.instance_variables.lineage.Given as goal

-- those so far, and those that are left
abbrev pub invariant-steps : goal.invariant-steps
invariant-steps l =
    map (λ n. n.now) l.names.items ++ lineage_of l.set (length (classes_of l.set) - l._step) l.name ≡ lineage l.set l.class
