use Rattle.std.proofs.Common.{◌<◌, ◌≤◌, length, ap, sym, subst, ◌∙◌, arith}
use Rattle.std.specs.Prelude.{if◌then◌else◌}
use Rattle.model.specs.Worlds.{waiters_of}
use Rattle.heap.specs.monitor_events.Tables.{over}
use Rattle.program_runs.proofs.policies.picks.waiters_to_wake.Goals as goal

pub returns-then-object-len : goal.returns-then-object-len
returns-then-object-len c = λ there world. absurd (omega (arith, there, c.if-object-len.true, c.len.ensures.monitors))

pub returns-then-not-is_owner : goal.returns-then-not-is_owner
returns-then-not-is_owner c = λ there world.
    ap (λ b. if b then length (waiters_of (over world c.args.heap.now) c.args.object) else 0) (sym c.if-not-is_owner.true ∙ c.is_owner.ensures world)

pub returns : goal.returns
returns c = λ there world.
    c.waiter_count.ensures
    ∙ ap (λ b. if b then length (waiters_of (over world c.args.heap.now) c.args.object) else 0) (sym c.if-not-is_owner.false ∙ c.is_owner.ensures world)
