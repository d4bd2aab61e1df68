use Rattle.waiting_circles.proofs.circles.Awaiting.{IsSoFar}
use Rattle.waiting_circles.proofs.circles.awaited_threads.Given as goal

abbrev pub invariant-loop-thread : goal.invariant-loop-thread
invariant-loop-thread l = IsSoFar l.fn.program l.fn.shared l.fn.frames l.thread l.nexts.items
