use Rattle.search_laws.proofs.Circles.{waiters_held_back}
use Rattle.search_laws.proofs.kept_states.waiting_threads_are_held_back.Goals as goal

pub returns : goal.returns
returns c = record { holds = waiters_held_back }
