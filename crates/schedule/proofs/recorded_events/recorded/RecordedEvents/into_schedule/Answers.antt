use Rattle.schedule.proofs.recorded_events.Runs.{are_entries}
use Rattle.schedule.proofs.recorded_events.recorded.RecordedEvents.into_schedule.Goals as goal

pub of_entries-requires : goal.of_entries-requires
of_entries-requires c = are_entries c.self.inside.entries.items c.self.inside.total c.self.invariant
