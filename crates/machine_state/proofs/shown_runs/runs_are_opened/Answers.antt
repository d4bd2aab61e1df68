use Rattle.machine_state.proofs.shown_runs.Runs.{runs_opened}
use Rattle.machine_state.proofs.shown_runs.runs_are_opened.Goals as goal

pub returns : goal.returns
returns c = record { holds = runs_opened }
