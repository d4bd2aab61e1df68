use Rattle.std.proofs.Common.{◌<◌, sym, ◌∙◌, ap, arith, length}
use Rattle.std.proofs.lemmas.Bool.{eq-eqb}
use Rattle.model.specs.State.{Waiter}
use Rattle.model.specs.Monitors.{monitor_at}
use Rattle.heap.proofs.monitor.Waiting.{passes, found, tests_false}
use Rattle.heap.proofs.monitor.table.position.Goals as goal

pub returns-then-member-thread-clause-value : goal.returns-then-member-thread-clause-value
returns-then-member-thread-clause-value c =
    let within : c.loop-at.at < length (monitor_at c.args.records.now c.args.index).waiters = omega arith in
    found c.args.thread (monitor_at c.args.records.now c.args.index).waiters c.loop-at.at c.member.result within
    c.member.ensures
    (eq-eqb _ _ (sym (ap (λ (w : Waiter). w.thread) c.member-in-loop-at.view_is) ∙ c.if-member-thread.true))
    c.loop-at.invariant

pub loop-at-preserved : goal.loop-at-preserved
loop-at-preserved c =
    let within : c.loop-at.at < length (monitor_at c.args.records.now c.args.index).waiters = omega arith in
    passes c.args.thread (monitor_at c.args.records.now c.args.index).waiters c.loop-at.at c.member.result within
    c.member.ensures
    (tests_false _ _ (λ e. c.if-member-thread.false (ap (λ (w : Waiter). w.thread) c.member-in-loop-at.view_is ∙ e)))
    c.loop-at.invariant
