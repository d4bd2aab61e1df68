use Rattle.std.proofs.Common.{◌<◌, ◌^◌, length, arith}
use Rattle.heap.proofs.Kept.{with_opening_words, with_opening_sound}
use Rattle.heap.proofs.heap.Heap.add_opening_words.Goals as goal

pub overflow_add-self : goal.overflow_add-self
overflow_add-self c = omega (arith, c.len-reference.ensures.objects, c.requires.there)

pub invariant_of-self-2 : goal.invariant_of-self-2
invariant_of-self-2 c =
    let small : length c.args.words.now < 2 ^ 32 = omega (arith, c.requires.words) in
    rw (c.in_ok-add_words.ensures.entry, c.in_ok-add_words.ensures.words, c.in_ok-add_words.ensures.monitor) (
    with_opening_sound c.self.inside.table.items c.self.inside.cells.items c.args.words.now c.self.inside.monitors
    c.self.inside.opening c.self.inside.counted c.self.inside.object_limit c.self.inside.cell_limit
    c.args.kind c.len-reference.result c.args.self.now c.self.view_is c.self.invariant small
    c.len-reference.ensures.objects c.requires.there
    )

pub returns-clause-ok : goal.returns-clause-ok
returns-clause-ok c =
    rw (c.in_ok-add_words.ensures.entry, c.in_ok-add_words.ensures.words, c.in_ok-add_words.ensures.monitor) (
    with_opening_words c.self.inside.table.items c.self.inside.cells.items c.args.words.now c.self.inside.monitors
    c.self.inside.opening c.self.inside.counted c.self.inside.object_limit c.self.inside.cell_limit
    c.args.kind c.len-reference.result c.args.self.now c.self.view_is c.self.invariant.laid
    c.len-reference.ensures.objects
    )
