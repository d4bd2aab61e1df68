use Rattle.types.proofs.subclass_table.Settling.{by_classes_above}
use Rattle.types.proofs.subclass_table.laws.above_by_classes_above.Goals as goal

pub returns : goal.returns
returns c = record { holds = by_classes_above }
