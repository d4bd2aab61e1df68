use Rattle.machine_state.proofs.shown_runs.Runs.{runs_going_on}
use Rattle.machine_state.proofs.shown_runs.runs_go_on.Goals as goal

pub returns : goal.returns
returns c = record { holds = runs_going_on }
