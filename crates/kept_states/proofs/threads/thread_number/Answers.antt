use Rattle.std.proofs.Common.{subst}
use Rattle.kept_states.proofs.Written.{AreKeptBefore, same_thread}
use Rattle.kept_states.proofs.threads.thread_number.Goals as goal

pub returns-in-Some-thread_before : goal.returns-in-Some-thread_before
returns-in-Some-thread_before c =
    same_thread c.args.parts.now c.args.shared.now c.args.thread c.in-Some-thread_before.number c.in-Some.before.now (subst (AreKeptBefore c.args.parts.now) c.in-Some.is c.requires)
    c.in-Some-thread_before.ensures
