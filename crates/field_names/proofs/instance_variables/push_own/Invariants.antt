use Rattle.std.proofs.Common.{◌++◌, List}
use Rattle.model.specs.Names.{Member}
use Rattle.field_names.specs.instance_variables.Declared.{AreFields}
use Rattle.field_names.proofs.instance_variables.Own.{variables_to}
use Rattle.field_names.proofs.instance_variables.push_own.Given as goal

-- those so far
abbrev pub invariant-fields : goal.invariant-fields
invariant-fields l = (before : List Member) → AreFields l.linked before l.initial.told.items → AreFields l.linked (before ++ variables_to l.linked l.place l.field) l.told.items
