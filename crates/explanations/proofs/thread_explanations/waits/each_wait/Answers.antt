use Rattle.std.proofs.Common.{◌≡◌, ◌∷◌, [], ◌++◌, List, length, sym, ap, ◌∙◌, arith}
use Rattle.explanations.specs.declared.thread_explanations.waits.Wait.{Wait}
use Rattle.explanations.specs.thread_explanations.Waits.{first_waits}
use Rattle.explanations.proofs.thread_explanations.Waiting.{counted, one_more}
use Rattle.explanations.proofs.thread_explanations.waits.each_wait.Goals as goal

pub loop-thread-preserved : goal.loop-thread-preserved
loop-thread-preserved c =
    let p = c.args.program.now in
    let shared = c.args.shared.now in
    let ends = c.args.ends.now in
    let k = c.loop-thread.thread in
    let longer =
    c.in_ok-push.ensures.items
    ∙ ap (λ (l : List Wait). l ++ c.wait_at.result ∷ []) c.loop-thread.invariant.0
    ∙ ap (λ (w : Wait). first_waits p shared ends k ++ w ∷ []) c.wait_at.ensures
    ∙ sym (one_more p shared ends k)
    in
    (longer, omega (arith, c.loop-thread-test.true, c.len-thread-end.ensures.length))

pub returns-clause-all : goal.returns-clause-all
returns-clause-all c =
    let all : c.loop-thread.thread ≡ length c.args.shared.now.threads.threads = omega (arith, c.loop-thread-test.false, c.len-thread-end.ensures.length, c.loop-thread.invariant.1) in
    c.loop-thread.invariant.0 ∙ ap (first_waits c.args.program.now c.args.shared.now c.args.ends.now) all

pub returns-clause-numbered : goal.returns-clause-numbered
returns-clause-numbered c =
    let count : length c.loop-thread.each.items ≡ c.loop-thread.thread = ap length c.loop-thread.invariant.0 ∙ counted c.args.program.now c.args.shared.now c.args.ends.now c.loop-thread.thread in
    let few = c.len-thread-end.ensures.within in
    omega (arith, count, c.loop-thread.invariant.1, c.len-thread-end.ensures.length, few.limited, few.numbered)
