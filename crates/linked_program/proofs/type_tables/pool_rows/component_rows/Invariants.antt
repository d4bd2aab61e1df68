use Rattle.std.proofs.Common.{◌≤◌, length}
use Rattle.model.specs.Classes.{classes_of}
use Rattle.linked_program.specs.type_tables.Rows.{AreComponentsIn}
use Rattle.linked_program.proofs.type_tables.PoolRows.{Before, items_of}
use Rattle.linked_program.proofs.type_tables.pool_rows.component_rows.Given as goal

abbrev pub invariant-loop-class : goal.invariant-loop-class
invariant-loop-class l = (l.class ≤ length (classes_of l.linked)) × Before l.linked (AreComponentsIn l.linked l.components.types.items) (items_of l.rows.items) l.class
