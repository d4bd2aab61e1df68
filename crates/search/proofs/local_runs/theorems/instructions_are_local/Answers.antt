use Rattle.search.proofs.local_runs.Frames.{are_local}
use Rattle.search.proofs.local_runs.theorems.instructions_are_local.Goals as goal

pub returns : goal.returns
returns c =
    record {
      holds = are_local c.frames_stand.ensures.holds c.stacks_are_lent.ensures.holds c.steps_are_events.ensures.holds c.a_step_is_carried.ensures.holds c.a_step_keeps_types.ensures.holds
          c.local_events_are_their_own.ensures.holds;
    }
