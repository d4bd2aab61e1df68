use Rattle.machine_state.proofs.method_selection.Running.{methods_run}
use Rattle.machine_state.proofs.method_selection.rows.methods_are_run.Goals as goal

pub returns : goal.returns
returns c = record { holds = methods_run }
