use Rattle.machine_state.proofs.method_selection.Reading.{methods_read}
use Rattle.machine_state.proofs.method_selection.rows.methods_are_read.Goals as goal

pub returns : goal.returns
returns c = record { holds = methods_read }
