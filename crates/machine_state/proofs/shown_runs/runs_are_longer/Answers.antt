use Rattle.machine_state.proofs.shown_runs.Runs.{runs_longer_by_one}
use Rattle.machine_state.proofs.shown_runs.runs_are_longer.Goals as goal

pub returns : goal.returns
returns c = record { holds = runs_longer_by_one }
