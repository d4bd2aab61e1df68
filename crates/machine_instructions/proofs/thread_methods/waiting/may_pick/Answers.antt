use Rattle.std.proofs.Common.{◌<◌, ◌≤◌, ◌&&◌, ◌==◌, length, sym, subst, ◌∙◌}
use Rattle.std.specs.Prelude.{if◌then◌else◌, nat_lt}
use Rattle.std.proofs.lemmas.Bool.{lt-ltb, le-ltb}
use Rattle.model.specs.Worlds.{waiters_of}
use Rattle.heap.specs.monitor_events.Tables.{over}
use Rattle.machine_instructions.proofs.thread_methods.waiting.may_pick.Goals as goal

pub returns-then-not-is_owner : goal.returns-then-not-is_owner
returns-then-not-is_owner c = λ world.
    let members = length (waiters_of (over world c.args.heap.now) c.args.object) in
    let owner = sym c.if-not-is_owner.true ∙ c.is_owner.ensures world in
    λ i. if owner i && nat_lt 0 members then nat_lt c.args.pick members else c.args.pick == 0

pub returns-then-members-gt0 : goal.returns-then-members-gt0
returns-then-members-gt0 c = λ world.
    let members = length (waiters_of (over world c.args.heap.now) c.args.object) in
    let owner = sym c.if-not-is_owner.false ∙ c.is_owner.ensures world in
    let some = sym (lt-ltb 0 members (subst (λ n. 0 < n) c.waiter_count-members.ensures c.if-members-gt0.true)) in
    (λ i. nat_lt (c.from.ensures i) (c.waiter_count-members.ensures i))
    ∙ (λ i. if owner i && some i then nat_lt c.args.pick members else c.args.pick == 0)

pub returns-else-members-gt0 : goal.returns-else-members-gt0
returns-else-members-gt0 c = λ world.
    let members = length (waiters_of (over world c.args.heap.now) c.args.object) in
    let owner = sym c.if-not-is_owner.false ∙ c.is_owner.ensures world in
    let none = sym (le-ltb 0 members (subst (λ n. n ≤ 0) c.waiter_count-members.ensures c.if-members-gt0.false)) in
    λ i. if owner i && none i then nat_lt c.args.pick members else c.args.pick == 0
