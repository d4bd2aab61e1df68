use Rattle.thread_stacks.proofs.Whole.{AreCounted}
use Rattle.thread_stacks.proofs.stack.ThreadStack.of_parts.Given as goal

abbrev pub invariant-entries : goal.invariant-entries
invariant-entries l = AreCounted l.fn.entries.items l.entry-index l.used l.left l.frames
