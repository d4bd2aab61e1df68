use Rattle.std.proofs.Common.{arith}
use Rattle.schedule.proofs.schedule_tree.Ways.{length_ways, forwards, forwards_fit}
use Rattle.schedule.proofs.schedule_tree.tree.ScheduleTree.schedule.Goals as goal

pub backwards-requires-clause-there : goal.backwards-requires-clause-there
backwards-requires-clause-there c =
    let there = rw (← c.self.view_is) at c.requires in
    let count = length_ways c.self.inside.nodes.items in
    rw c.deref.ensures.value (omega (arith, there, count))

pub of_entries-requires : goal.of_entries-requires
of_entries-requires c =
    let there = rw (← c.self.view_is) at c.requires in
    let back = rw c.deref.ensures.value at c.in_ok-entries.ensures in
    rw c.reverse.ensures.items (forwards_fit c.self.inside.nodes.items c.args.number c.in_ok-entries.entries.items c.self.invariant.0 there back)

pub returns : goal.returns
returns c =
    let there = rw (← c.self.view_is) at c.requires in
    let back = rw c.deref.ensures.value at c.in_ok-entries.ensures in
    rw (← c.self.view_is, c.of_entries.ensures, c.reverse.ensures.items) (forwards c.self.inside.nodes.items c.args.number c.in_ok-entries.entries.items back there)
