use Rattle.std.proofs.Common.{arith}
use Rattle.heap.proofs.monitor.Waiting.{one_left}
use Rattle.heap.proofs.monitor.table.clear.Goals as goal

pub loop-count-preserved : goal.loop-count-preserved
loop-count-preserved c = record {
  in_range = omega (arith, c.loop-count.invariant.in_range);
  left = one_left c.args.records.now c.loop-count.records c.leave.new.self c.args.index c.loop-count.count c.requires
      c.loop-count-test.true c.loop-count.invariant.left c.leave.ensures;
}
