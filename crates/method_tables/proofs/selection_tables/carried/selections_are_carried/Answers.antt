use Rattle.method_tables.proofs.selection_tables.Carrying.{selections_carried}
use Rattle.method_tables.proofs.selection_tables.carried.selections_are_carried.Goals as goal

pub returns : goal.returns
returns c = record { holds = selections_carried }
