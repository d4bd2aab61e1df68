use Rattle.std.proofs.Common.{◌≡◌, take, map}
use Rattle.model.specs.ObjectMethods.{dotted_unit}
use Rattle.linked_program.proofs.class_rows.name.dotted_name.Given as goal

abbrev pub invariant-loop-unit : goal.invariant-loop-unit
invariant-loop-unit l = l.name.items ≡ map dotted_unit (take l.unit-index l.unit-items)
