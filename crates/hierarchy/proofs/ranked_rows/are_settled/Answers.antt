use Rattle.std.proofs.Common.{◌∙◌, sym, ap, Some}
use Rattle.std.proofs.lemmas.Option.{slice_get-get_or}
use Rattle.class_tree.specs.View.{file_of}
use Rattle.model.specs.Tree.{FileTree}
use Rattle.model.specs.Classes.{classes_of, name_of}
use Rattle.hierarchy.specs.Above.{next_row}
use Rattle.hierarchy.specs.Numbers.{names_of, named_rows}
use Rattle.hierarchy.proofs.RowLaws.{get_map, made_here}
use Rattle.hierarchy.proofs.ranked_rows.are_settled.Goals as goal

pub loop-place-preserved : goal.loop-place-preserved
loop-place-preserved c rest =
    let files = c.args.set.now in
    let names = c.args.names.now in
    let rows = named_rows names c.args.rows.now in
    let place = c.loop-place.place in
    let row = c.in-Some-get.row.now in
    c.loop-place.invariant (made_here (λ (file : FileTree). next_row files c.args.kind rows (name_of file)) (classes_of files) rows place (file_of c.in-Some.class.now) (names_of names row) (sym c.in-Some.ensures)
    (get_map (names_of names) c.args.rows.now place row (slice_get-get_or c.args.rows.now place row c.in-Some-get.ensures.lookup.3.0 ∙ ap Some (sym c.in-Some-get.ensures.lookup.1)))
    (sym (c.in_ok-next.ensures ∙ ap (next_row files c.args.kind rows) c.class_name.ensures) ∙ ap (names_of names) (c.is_same.ensures c.if-not-is_same.false)) rest)
