use Rattle.std.proofs.Common.{◌≡◌, ◌≤◌, ◌+◌, length, ap, sym, subst, ◌∙◌, arith}
use Rattle.machine_state.specs.declared.state.Shared.{Shared}
use Rattle.program_runs.specs.worlds.Turns.{MayStep}
use Rattle.program_runs.proofs.worlds.Counting.{AreCounted, all_counted, counted_first, counted_more, counted_same}
use Rattle.program_runs.proofs.worlds.turns.enabled_count.Goals.{then-may, else-may}
use Rattle.program_runs.proofs.worlds.turns.enabled_count.Goals as goal

pub threads-init : goal.threads-init
threads-init c = (omega arith, omega arith, counted_first c.args.machine.now)

pub threads-preserved : goal.threads-preserved
threads-preserved c =
    let m = c.args.machine.now in
    let i = c.threads.thread in
    let all : c.len-thread-end.result ≡ length m.shared.threads.threads = c.len-thread-end.ensures.length ∙ ap (λ (s : Shared). length s.threads.threads) c.shared.ensures.same in
    let within : i + 1 ≤ length m.shared.threads.threads = omega (arith, c.threads-test.true, all) in
    elim c.if-may.branch [
      | then-may w ↦ (
        omega (arith, c.threads.invariant.0, w.count-is),
        within,
        subst (AreCounted m (i + 1)) (sym w.count-is) (counted_more m i c.threads.count (subst (MayStep m i) w.if-may.true c.may.ensures) c.threads.invariant.2),
      )
      | else-may w ↦ (
        omega (arith, c.threads.invariant.0, w.count-is),
        within,
        subst (AreCounted m (i + 1)) (sym w.count-is) (counted_same m i c.threads.count (subst (MayStep m i) w.if-may.false c.may.ensures) c.threads.invariant.2),
      )
    ]

pub returns : goal.returns
returns c =
    let all : c.len-thread-end.result ≡ length c.args.machine.now.shared.threads.threads = c.len-thread-end.ensures.length ∙ ap (λ (s : Shared). length s.threads.threads) c.shared.ensures.same in
    all_counted c.args.machine.now c.threads.thread c.threads.count (omega (arith, c.threads.invariant.1, c.threads-test.false, all)) c.threads.invariant.2
