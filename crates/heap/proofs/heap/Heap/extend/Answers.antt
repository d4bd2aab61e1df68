use Rattle.std.proofs.Common.{◌+◌, ◌≤◌, length, arith}
use Rattle.heap.proofs.Extended.{heap_extended, extended_sound}
use Rattle.heap.proofs.heap.Heap.extend.Goals as goal

pub invariant_of-self-2 : goal.invariant_of-self-2
invariant_of-self-2 c =
    let room : c.args.self.now.counted + length c.args.words.now ≤ c.args.self.now.cell_limit =
    omega (arith, c.cells_left.ensures) in
    rw (c.in_ok-extend.ensures.entries, c.in_ok-extend.ensures.words) (
    extended_sound c.self.inside.table.items c.self.inside.cells.items c.args.words.now c.self.inside.monitors
    c.self.inside.opening c.self.inside.counted c.self.inside.object_limit c.self.inside.cell_limit
    c.args.object c.args.self.now c.self.view_is c.self.invariant c.requires.there c.requires.fits room
    )

pub returns-clause-ok : goal.returns-clause-ok
returns-clause-ok c =
    rw (c.in_ok-extend.ensures.entries, c.in_ok-extend.ensures.words) (
    heap_extended c.self.inside.table.items c.self.inside.cells.items c.args.words.now c.self.inside.monitors
    c.self.inside.opening c.self.inside.counted c.self.inside.object_limit c.self.inside.cell_limit
    c.args.object c.args.self.now c.self.view_is c.self.invariant c.requires.there
    )
