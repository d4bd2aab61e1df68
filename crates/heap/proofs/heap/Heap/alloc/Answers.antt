use Rattle.std.proofs.Common.{◌+◌, ◌<◌, ◌≤◌, ◌^◌, arith}
use Rattle.heap.specs.Heap.{made}
use Rattle.heap.proofs.Sound.{allocated, allocated_sound}
use Rattle.heap.proofs.heap.Heap.alloc.Goals as goal

pub invariant_of-self-2 : goal.invariant_of-self-2
invariant_of-self-2 c =
    let small : c.args.count < 2 ^ 32 = omega arith in
    let few : made c.args.self.now < c.args.self.now.object_limit = omega (arith, c.objects_left.ensures) in
    let room : c.args.self.now.counted + c.args.counted ≤ c.args.self.now.cell_limit =
    omega (arith, c.cells_left.ensures) in
    rw (c.in_ok-add.ensures.entry, c.in_ok-add.ensures.words, c.in_ok-add.ensures.monitor) (
    allocated_sound c.self.inside.table.items c.self.inside.cells.items c.self.inside.monitors c.self.inside.opening
    c.self.inside.counted c.self.inside.object_limit c.self.inside.cell_limit
    c.args.kind c.args.count c.args.counted c.args.self.now c.self.view_is c.self.invariant small few room
    )

pub returns : goal.returns
returns c =
    let few : made c.args.self.now < c.args.self.now.object_limit = omega (arith, c.objects_left.ensures) in
    let room : c.args.self.now.counted + c.args.counted ≤ c.args.self.now.cell_limit =
    omega (arith, c.cells_left.ensures) in
    rw (c.in_ok-add.ensures.entry, c.in_ok-add.ensures.words, c.in_ok-add.ensures.monitor) (
    allocated c.self.inside.table.items c.self.inside.cells.items c.self.inside.monitors c.self.inside.opening
    c.self.inside.counted c.self.inside.object_limit c.self.inside.cell_limit
    c.args.kind c.args.count c.args.counted c.len-reference.result c.args.self.now c.self.view_is c.self.invariant
    c.len-reference.ensures.objects few room
    )
