use Rattle.std.proofs.Common.{◌≡◌, ◌++◌, map, take}
use Rattle.model.specs.Report.{end_state_of, thread_lines}
use Rattle.schedule.proofs.report.lines.push_threads.Given as goal

abbrev pub invariant-loop-thread : goal.invariant-loop-thread
invariant-loop-thread l = l.text.items ≡ l.fn.text.items ++ thread_lines 0 (map end_state_of (take l.thread l.threads))
