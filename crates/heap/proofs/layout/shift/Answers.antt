use Rattle.std.proofs.Common.{◌≡◌, ◌-◌, ◌<◌, length, sym, ap, ◌∙◌, arith, length-drop}
use Rattle.heap.specs.declared.kind.ObjectKind.TheVariants as kind
use Rattle.heap.specs.declared.layout.Entry.{Entry}
use Rattle.heap.proofs.Extended.{one_left}
use Rattle.heap.proofs.layout.shift.Goals as goal

pub overflow_add-table : goal.overflow_add-table
overflow_add-table c =
    let first : Entry = record { kind = kind.Instance 0; start = 0 } in
    let table = c.entries.table in
    let place = c.entries.place in
    let counts : length table - place ≡ length c.args.table.now - place =
    sym (length-drop place table) ∙ (ap length c.entries.invariant.left ∙ length-drop place c.args.table.now) in
    let there : place < length c.args.table.now = omega (arith, counts, c.entries-test.true) in
    let same = ap (λ (e : Entry). e.start) (one_left table c.args.table.now place first c.entries.invariant.left) in
    omega (arith, same, c.requires.fits place first there)
