use Rattle.types.proofs.subclass_table.Naming.{object_first}
use Rattle.types.proofs.subclass_table.laws.object_is_first.Goals as goal

pub returns : goal.returns
returns c = record { holds = object_first }
