use Rattle.std.proofs.Common.{ℕ, ◌++◌, ◌∷◌, [], ◌∙◌, ap, arith, sym}
use Rattle.model.specs.State.{Waiter}
use Rattle.model.specs.Monitors.{monitor_at}
use Rattle.kept_parts.proofs.Waiters.{one_written}
use Rattle.kept_parts.proofs.monitor_rows.push_waiters.Goals as goal

pub waiters-preserved : goal.waiters-preserved
waiters-preserved c =
    one_written (monitor_at c.args.heap.now.locks.monitors c.args.object).waiters c.waiters.pick c.in-Some.waiter c.args.row.now.items c.waiters.row.items
    c.push.new.row.items c.push-in-waiters.new.row.items (omega arith) (sym c.in-Some.ensures) c.waiters.invariant
    (c.in_ok-push.ensures ∙ ap (λ (n : ℕ). c.waiters.row.items ++ n ∷ []) (c.from.ensures ∙ ap (λ (w : Waiter). w.thread) c.waiter-in-waiters.view_is))
    (c.in_ok-push-2.ensures ∙ ap (λ (n : ℕ). c.push.new.row.items ++ n ∷ []) (ap (λ (w : Waiter). w.count) c.waiter-in-waiters.view_is))
