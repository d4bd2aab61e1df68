use Rattle.method_tables.proofs.selection_tables.Carrying.{interface_selections_carried}
use Rattle.method_tables.proofs.selection_tables.carried.interface_selections_are_carried.Goals as goal

pub returns : goal.returns
returns c = record { holds = interface_selections_carried }
