use Rattle.search_laws.proofs.Releases.{releases_alone}
use Rattle.search_laws.proofs.alone.events_that_leave_monitors_are_alone.Goals as goal

pub returns : goal.returns
returns c = record { holds = releases_alone c.owners_are_kept.ensures.holds.of_values }
