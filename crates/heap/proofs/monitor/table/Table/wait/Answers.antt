use Rattle.std.proofs.Common.{◌≡◌, ◌<◌, List, length, sym, ap, arith}
use Rattle.model.specs.State.{Monitor}
use Rattle.heap.proofs.monitor.Waiting.{wait_after}
use Rattle.heap.proofs.monitor.table.Table.wait.Goals as goal

pub returns-clause-after : goal.returns-clause-after
returns-clause-after c =
    let long : length c.self.inside.records ≡ length c.args.self.now =
    ap (λ (ms : List Monitor). length ms) c.self.view_is in
    let within : c.args.index < length c.self.inside.records = omega (arith, long, c.requires) in
    rw (← c.self.view_is) (wait_after c.self.inside.records c.join.new.self c.set_owner.new.self c.args.index
    c.args.thread c.count-count.result
    within (sym c.if-not-is_owner.ensures) c.count-count.ensures c.in_ok-join.ensures.ok c.set_owner.ensures)
