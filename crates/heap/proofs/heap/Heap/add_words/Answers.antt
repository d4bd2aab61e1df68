use Rattle.std.proofs.Common.{◌+◌, ◌<◌, ◌≤◌, ◌^◌, length, arith}
use Rattle.heap.specs.Heap.{made}
use Rattle.heap.proofs.Kept.{with_words, with_words_sound}
use Rattle.heap.proofs.Laid.{length-objects_of}
use Rattle.heap.proofs.heap.Heap.add_words.Goals as goal

pub invariant_of-self-2 : goal.invariant_of-self-2
invariant_of-self-2 c =
    let small : length c.args.words.now < 2 ^ 32 = omega (arith, c.requires) in
    let few : made c.args.self.now < c.args.self.now.object_limit = omega (arith, c.objects_left.ensures) in
    let room : c.args.self.now.counted + c.args.counted ≤ c.args.self.now.cell_limit =
    omega (arith, c.cells_left.ensures) in
    rw (c.in_ok-add_words.ensures.entry, c.in_ok-add_words.ensures.words, c.in_ok-add_words.ensures.monitor) (
    with_words_sound c.self.inside.table.items c.self.inside.cells.items c.args.words.now c.self.inside.monitors
    c.self.inside.opening c.self.inside.counted c.self.inside.object_limit c.self.inside.cell_limit
    c.args.kind c.args.counted c.args.self.now c.self.view_is c.self.invariant small few room
    )

pub returns-clause-ok : goal.returns-clause-ok
returns-clause-ok c =
    rw (c.in_ok-add_words.ensures.entry, c.in_ok-add_words.ensures.words, c.in_ok-add_words.ensures.monitor) (
    with_words c.self.inside.table.items c.self.inside.cells.items c.args.words.now c.self.inside.monitors
    c.self.inside.opening c.self.inside.counted c.self.inside.object_limit c.self.inside.cell_limit
    c.args.kind c.args.counted c.args.self.now c.self.view_is c.self.invariant.laid
    )

pub returns-clause-opened : goal.returns-clause-opened
returns-clause-opened c = rw (← c.self.view_is)
    (omega (arith, c.self.invariant.opened, length-objects_of c.self.inside.table.items c.self.inside.cells.items))
