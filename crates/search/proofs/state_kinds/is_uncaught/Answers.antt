use Rattle.std.proofs.Common.{◌<◌, ◌≤◌, ◌∙◌, ap, arith, below_more, false, length, subst, sym, true}
use Rattle.machine_state.specs.declared.state.Shared.{Shared}
use Rattle.search.specs.StateKinds.{has_thrown}
use Rattle.search.proofs.Uncaught.{HasThrownAt, tells_none_uncaught, tells_uncaught}
use Rattle.search.proofs.state_kinds.is_uncaught.Goals as goal

pub threads-init : goal.threads-init
threads-init c = λ t lt. absurd (omega (arith, lt))

pub threads-preserved : goal.threads-preserved
threads-preserved c =
    below_more (λ t. HasThrownAt c.args.machine.now.shared.threads.threads t false) c.threads.thread c.threads.invariant
    (subst (λ (s : Shared). HasThrownAt s.threads.threads c.threads.thread false) c.shared.ensures.same
    (ap has_thrown (sym c.status.ensures) ∙ (sym c.has_thrown.ensures ∙ c.if-has_thrown.false)))

pub returns-then-has_thrown : goal.returns-then-has_thrown
returns-then-has_thrown c =
    let within : c.threads.thread < length c.args.machine.now.shared.threads.threads =
    subst (λ (s : Shared). c.threads.thread < length s.threads.threads) c.shared.ensures.same (omega (arith, c.threads-test.true, c.len-count.ensures.length)) in
    tells_uncaught c.args.machine.now c.threads.thread within
    (subst (λ (s : Shared). HasThrownAt s.threads.threads c.threads.thread true) c.shared.ensures.same
    (ap has_thrown (sym c.status.ensures) ∙ (sym c.has_thrown.ensures ∙ c.if-has_thrown.true)))

pub returns : goal.returns
returns c =
    let all : length c.args.machine.now.shared.threads.threads ≤ c.threads.thread =
    subst (λ (s : Shared). length s.threads.threads ≤ c.threads.thread) c.shared.ensures.same (omega (arith, c.threads-test.false, c.len-count.ensures.length)) in
    tells_none_uncaught c.args.machine.now (λ t lt. c.threads.invariant t (omega (arith, all, lt)))
