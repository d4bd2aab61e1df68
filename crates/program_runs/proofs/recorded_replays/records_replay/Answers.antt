use Rattle.program_runs.proofs.recorded_replays.Alike.{records_replay_alike}
use Rattle.program_runs.proofs.recorded_replays.records_replay.Goals as goal

pub returns : goal.returns
returns c = record { holds = records_replay_alike c.picks_are_in_order.ensures.holds }
