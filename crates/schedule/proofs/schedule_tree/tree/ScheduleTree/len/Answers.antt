use Rattle.std.proofs.Common.{arith}
use Rattle.schedule.proofs.schedule_tree.Ways.{length_ways}
use Rattle.schedule.proofs.schedule_tree.tree.ScheduleTree.len.Goals as goal

pub returns : goal.returns
returns c = rw (← c.self.view_is) (let count = length_ways c.self.inside.nodes.items in omega (arith, count, c.len.ensures))
