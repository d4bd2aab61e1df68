use Rattle.std.proofs.Common.{◌≡◌, ◌<◌, ◌≤◌, ◌+◌, length, ap, sym, subst, ◌∙◌, arith}
use Rattle.machine_state.specs.declared.state.Shared.{Shared}
use Rattle.program_runs.specs.worlds.Turns.{MayStep}
use Rattle.program_runs.proofs.worlds.Counting.{AreLeft, found_there, left_first, left_less, left_same, none_left}
use Rattle.program_runs.proofs.worlds.turns.enabled_at.Goals.{then-may+else-left-eq0, else-may}
use Rattle.program_runs.proofs.worlds.turns.enabled_at.Goals as goal

pub threads-init : goal.threads-init
threads-init c = (omega arith, left_first c.args.machine.now c.args.place)

pub returns-then-left-eq0-clause-at : goal.returns-then-left-eq0-clause-at
returns-then-left-eq0-clause-at c =
    let m = c.args.machine.now in
    let all : c.len-thread-end.result ≡ length m.shared.threads.threads = c.len-thread-end.ensures.length ∙ ap (λ (s : Shared). length s.threads.threads) c.shared.ensures.same in
    found_there m c.threads.thread c.threads.left c.args.place (omega (arith, c.threads-test.true, all)) (subst (MayStep m c.threads.thread) c.if-may.true c.may.ensures) c.if-left-eq0.true
    c.threads.invariant.1

pub threads-preserved : goal.threads-preserved
threads-preserved c =
    let m = c.args.machine.now in
    let i = c.threads.thread in
    let all : c.len-thread-end.result ≡ length m.shared.threads.threads = c.len-thread-end.ensures.length ∙ ap (λ (s : Shared). length s.threads.threads) c.shared.ensures.same in
    let within : i + 1 ≤ length m.shared.threads.threads = omega (arith, c.threads-test.true, all) in
    elim c.if-may.branch [
      | then-may+else-left-eq0 w ↦ (
        within,
        subst (λ left. AreLeft m (i + 1) left c.args.place) (sym w.left-is)
            (left_less m i c.threads.left c.args.place (subst (MayStep m i) w.if-may.true c.may.ensures) (omega (arith, w.if-left-eq0.false)) c.threads.invariant.1),
      )
      | else-may w ↦ (
        within,
        subst (λ left. AreLeft m (i + 1) left c.args.place) (sym w.left-is)
            (left_same m i c.threads.left c.args.place (subst (MayStep m i) w.if-may.false c.may.ensures) c.threads.invariant.1),
      )
    ]

pub returns-clause-at : goal.returns-clause-at
returns-clause-at c =
    let all : c.len-thread-end.result ≡ length c.args.machine.now.shared.threads.threads = c.len-thread-end.ensures.length ∙ ap (λ (s : Shared). length s.threads.threads) c.shared.ensures.same in
    none_left c.args.machine.now c.threads.thread c.threads.left c.args.place (omega (arith, c.threads.invariant.0, c.threads-test.false, all)) c.threads.invariant.1
