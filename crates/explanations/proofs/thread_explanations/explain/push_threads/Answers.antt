use Rattle.std.proofs.Common.{◌++◌, sym, ap, append_assoc, ◌∙◌, List, ℕ, map, take, vec_items}
use Rattle.model.specs.Report.{end_state_of}
use Rattle.model.specs.declared.report.EndState.{EndState}
use Rattle.explanations.specs.thread_explanations.Details.{lines_at}
use Rattle.explanations.specs.thread_explanations.Explained.{told_of, told_of_all}
use Rattle.explanations.proofs.thread_explanations.Threads.{one_more}
use Rattle.explanations.proofs.thread_explanations.explain.push_threads.Goals as goal

pub loop-thread-preserved : goal.loop-thread-preserved
loop-thread-preserved c =
    let below = lines_at c.args.details.now in
    let k = c.loop-thread.thread in
    let state = c.index-ends-thread.result in
    let before = told_of_all 0 (map end_state_of (take k c.args.ends.now)) below in
    c.in_ok-push_told.ensures
    ∙ ap (λ (l : List ℕ). l ++ told_of k (end_state_of state) (map vec_items c.lines_at.result.now)) c.loop-thread.invariant
    ∙ append_assoc c.args.text.now.items before (told_of k (end_state_of state) (map vec_items c.lines_at.result.now))
    ∙ ap (λ (lines : List (List ℕ)). c.args.text.now.items ++ (before ++ told_of k (end_state_of state) lines)) c.lines_at.ensures
    ∙ ap (λ (s : EndState). c.args.text.now.items ++ (before ++ told_of k (end_state_of s) (below k))) c.index-ends-thread.is
    ∙ ap (λ (l : List ℕ). c.args.text.now.items ++ l) (sym (one_more below c.args.ends.now k state c.loop-thread-test.true))
