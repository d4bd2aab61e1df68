use Rattle.alone_events.proofs.Releases.{releases_alone}
use Rattle.alone_events.proofs.theorems.releases_are_alone.Goals as goal

pub returns : goal.returns
returns c = record { holds = releases_alone c.stacks_are_lent.ensures.holds c.events_that_leave_monitors_are_alone.ensures.holds c.events_that_leave_monitors_are_free.ensures.holds }
