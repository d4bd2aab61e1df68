use Rattle.std.proofs.Common.{◌∷◌, [], arith}
use Rattle.std.proofs.lemmas.List.{length-append}
use Rattle.schedule.specs.declared.schedule_tree.tree.Node.{Node}
use Rattle.schedule.proofs.schedule_tree.Ways.{length_ways, ways_pushed, below_pushed, fitting_pushed}
use Rattle.schedule.proofs.schedule_tree.tree.ScheduleTree.push.Goals as goal

pub invariant_of-self-2 : goal.invariant_of-self-2
invariant_of-self-2 c =
    let nodes = c.self.inside.nodes.items in
    let node : Node = record { parent = c.args.parent; entry = c.args.entry } in
    let parent = rw (← c.self.view_is) at c.requires.parent in
    let room = rw (← c.self.view_is) at c.requires.room in
    let count = length_ways nodes in
    let more = length-append nodes (node ∷ []) in
    rw c.in_ok-push.ensures.items (omega (arith, room, count, more), below_pushed nodes node c.self.invariant.1 parent, fitting_pushed nodes node c.self.invariant.2 c.requires.fits)

pub returns-clause-ok : goal.returns-clause-ok
returns-clause-ok c =
    let nodes = c.self.inside.nodes.items in
    let node : Node = record { parent = c.args.parent; entry = c.args.entry } in
    rw (c.in_ok-push.ensures.items, ← c.self.view_is) (ways_pushed nodes node)
