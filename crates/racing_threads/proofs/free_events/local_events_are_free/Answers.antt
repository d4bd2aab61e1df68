use Rattle.racing_threads.proofs.free_events.Locals.{local_events_free}
use Rattle.racing_threads.proofs.free_events.local_events_are_free.Goals as goal

pub returns : goal.returns
returns c = record { holds = local_events_free }
