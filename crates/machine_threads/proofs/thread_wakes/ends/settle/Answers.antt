use Rattle.std.proofs.Common.{sym}
use Rattle.machine_threads.proofs.thread_wakes.Ending.{has_frames, goes_on, has_ended}
use Rattle.machine_threads.proofs.thread_wakes.ends.settle.Goals as goal
use Rattle.machine_threads.proofs.thread_wakes.ends.settle.Goals.{else-is_empty-via-then-is_empty+else-is_over, else-is_empty-via-else-is_empty}

-- src/ends.rt:47:1
pub returns-then-is_over : goal.returns-then-is_over
returns-then-is_over c = λ trees p bounds inflated world old stepped d.
    has_ended c.args.thread c.args.shared.now c.args.stack.now trees p bounds inflated world old stepped d c.end_and_wake.new.shared c.end_and_wake.ensures
    (sym c.if-is_empty.ensures) (sym c.if-is_over.ensures.says)

-- src/ends.rt:47:1
pub returns-else-is_empty : goal.returns-else-is_empty
returns-else-is_empty c = elim c.else-is_empty.branch [
  | else-is_empty-via-then-is_empty+else-is_over w ↦ λ trees p bounds inflated world old stepped d. goes_on c.args.thread c.args.shared.now c.args.stack.now trees p bounds inflated world old stepped d (sym w.if-is_over.ensures.says)
  | else-is_empty-via-else-is_empty w ↦ λ trees p bounds inflated world old stepped d. has_frames c.args.thread c.args.shared.now c.args.stack.now trees p bounds inflated world old stepped d (sym w.if-is_empty.ensures)
]
