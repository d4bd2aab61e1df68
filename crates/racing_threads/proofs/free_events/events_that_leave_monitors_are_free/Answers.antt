use Rattle.racing_threads.proofs.free_events.Releases.{releases_free}
use Rattle.racing_threads.proofs.free_events.events_that_leave_monitors_are_free.Goals as goal

pub returns : goal.returns
returns c = record { holds = releases_free c.owners_are_kept.ensures.holds.of_values }
