use Rattle.types.specs.subclass_table.Made.{AreMade}
use Rattle.types.proofs.subclass_table.rows.made_rows.Given as goal

abbrev pub invariant-loop-step : goal.invariant-loop-step
invariant-loop-step l = AreMade l.set l.columns l.width l.step l.made.items
