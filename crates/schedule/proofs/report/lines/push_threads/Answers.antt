use Rattle.std.proofs.Common.{◌++◌, sym, ap, append_assoc, ◌∙◌, List, ℕ, map, take}
use Rattle.model.specs.Report.{end_state_of, thread_line, thread_lines}
use Rattle.model.specs.declared.report.EndState.{EndState}
use Rattle.schedule.proofs.report.ThreadLines.{one_more}
use Rattle.schedule.proofs.report.lines.push_threads.Goals as goal

pub loop-thread-preserved : goal.loop-thread-preserved
loop-thread-preserved c =
    let before = map end_state_of (take c.loop-thread.thread c.args.threads.now) in
    let state = c.index-threads-thread.result in
    c.in_ok-push_thread.ensures
    ∙ ap (λ (l : List ℕ). l ++ thread_line c.loop-thread.thread (end_state_of state)) c.loop-thread.invariant
    ∙ append_assoc c.args.text.now.items (thread_lines 0 before) (thread_line c.loop-thread.thread (end_state_of state))
    ∙ ap (λ (s : EndState). c.args.text.now.items ++ (thread_lines 0 before ++ thread_line c.loop-thread.thread (end_state_of s))) c.index-threads-thread.is
    ∙ ap (λ (l : List ℕ). c.args.text.now.items ++ l) (sym (one_more c.args.threads.now c.loop-thread.thread state c.loop-thread-test.true))
