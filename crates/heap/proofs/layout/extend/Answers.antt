use Rattle.std.proofs.Common.{◌≡◌, ◌+◌, ◌<◌, ◌^◌, length, rules, sym, ap, subst, ◌∙◌, arith, All, List}
use Rattle.heap.specs.declared.layout.Entry.{Entry}
use Rattle.heap.specs.Layout.{start_at, inserted}
use Rattle.heap.proofs.Laid.{start_le_end}
use Rattle.heap.proofs.Extended.{all_fit, inserted_count}
use Rattle.heap.proofs.layout.extend.Goals as goal

pub insert-requires : goal.insert-requires
insert-requires c =
    let at : c.start-place.result ≡ start_at c.args.table.now.items (length c.args.cells.now.items) (c.args.object + 1) =
    c.start-place.ensures ∙ (λ i. start_at (c.as_slice.ensures.value i) (length (c.as_slice-2.ensures.value i)) (c.args.object + 1)) in
    omega (arith, at, start_le_end c.args.table.now.items (length c.args.cells.now.items) (c.args.object + 1) c.requires.laid)

pub shift-requires : goal.shift-requires
shift-requires c =
    let fits : c.len-end.result < 2 ^ 64 = search (rules, c.len-end.type_inv) in
    let count : length c.insert.new.cells.items ≡ length c.args.cells.now.items + length c.args.words.now =
    ap length c.in_ok-insert.ensures.ok ∙ inserted_count c.args.cells.now.items c.start-place.result c.args.words.now in
    record {
      fits = subst (λ (es : List Entry). All (λ (e : Entry). e.start + length c.args.words.now < 2 ^ 64) es) (sym c.deref_mut.ensures.value)
          (all_fit c.args.table.now.items (length c.args.cells.now.items) (length c.args.words.now) (2 ^ 64) c.requires.laid
          (omega (arith, fits, count, c.len-end.ensures)));
    }
