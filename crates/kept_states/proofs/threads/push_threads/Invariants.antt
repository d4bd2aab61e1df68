use Rattle.kept_states.specs.States.{AreThreadsPushed}
use Rattle.kept_states.proofs.threads.push_threads.Given as goal

abbrev pub invariant-threads : goal.invariant-threads
invariant-threads l = AreThreadsPushed l.shared l.thread l.fn.state.items l.state.items l.fn.parts l.parts
