use Rattle.std.proofs.Common.{◌<◌, ◌^◌, arith}
use Rattle.heap.proofs.Sound.{opened, opened_sound}
use Rattle.heap.proofs.heap.Heap.add_opening.Goals as goal

pub overflow_add-self : goal.overflow_add-self
overflow_add-self c = omega (arith, c.len-reference.ensures.objects, c.requires)

pub invariant_of-self-2 : goal.invariant_of-self-2
invariant_of-self-2 c =
    let small : c.args.count < 2 ^ 32 = omega arith in
    rw (c.in_ok-add.ensures.entry, c.in_ok-add.ensures.words, c.in_ok-add.ensures.monitor) (
    opened_sound c.self.inside.table.items c.self.inside.cells.items c.self.inside.monitors c.self.inside.opening
    c.self.inside.counted c.self.inside.object_limit c.self.inside.cell_limit
    c.args.kind c.args.count c.len-reference.result c.args.self.now c.self.view_is c.self.invariant small
    c.len-reference.ensures.objects c.requires
    )

pub returns-clause-ok : goal.returns-clause-ok
returns-clause-ok c =
    rw (c.in_ok-add.ensures.entry, c.in_ok-add.ensures.words, c.in_ok-add.ensures.monitor) (
    opened c.self.inside.table.items c.self.inside.cells.items c.self.inside.monitors c.self.inside.opening
    c.self.inside.counted c.self.inside.object_limit c.self.inside.cell_limit
    c.args.kind c.args.count c.len-reference.result c.args.self.now c.self.view_is c.self.invariant
    c.len-reference.ensures.objects c.requires
    )
