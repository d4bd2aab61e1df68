use Rattle.machine_state.proofs.method_selection.Reading.{classes_read}
use Rattle.machine_state.proofs.method_selection.rows.classes_are_read.Goals as goal

pub returns : goal.returns
returns c = record { holds = classes_read }
