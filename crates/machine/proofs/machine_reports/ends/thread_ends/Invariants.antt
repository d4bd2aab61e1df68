use Rattle.machine.proofs.machine_reports.Firsts.{TellFirst}
use Rattle.machine.proofs.machine_reports.ends.thread_ends.Given as goal

abbrev pub invariant-loop-thread : goal.invariant-loop-thread
invariant-loop-thread l = TellFirst l.fn.classes l.fn.program l.fn.shared l.fn.frames l.thread l.ends.items
