use Rattle.std.proofs.Common.{length, map}
use Rattle.model.specs.Lookup.{instance_fields}
use Rattle.field_names.proofs.instance_variables.Lists.{AreToldTo}
use Rattle.field_names.proofs.instance_variables.instance_variables.Given as goal

-- of those that are no longer there
abbrev pub invariant-classes : goal.invariant-classes
invariant-classes l = AreToldTo l.linked (map (λ n. n.now) l.names.items) l.told.items (instance_fields l.linked l.class)

abbrev pub decreases-classes : goal.decreases-classes
decreases-classes l = length l.names.items
