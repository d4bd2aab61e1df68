use Rattle.kept_states.proofs.Written.{before_stays}
use Rattle.kept_states.proofs.threads.push_threads.Goals as goal

pub thread_number-requires : goal.thread_number-requires
thread_number-requires c = before_stays c.args.parts.now c.threads.parts c.args.before c.threads.invariant.grows c.requires
