use Rattle.std.proofs.Common.{◌∙◌, sym, ap}
use Rattle.class_tree.specs.View.{file_of}
use Rattle.model.specs.Tree.{FileTree}
use Rattle.model.specs.Classes.{classes_of, name_of}
use Rattle.hierarchy.specs.Above.{next_row, next_rows}
use Rattle.hierarchy.specs.Numbers.{named_rows}
use Rattle.hierarchy.proofs.NumberLaws.{named_pushed}
use Rattle.hierarchy.proofs.rows.rows_above.Goals as goal

pub loop-place-preserved : goal.loop-place-preserved
loop-place-preserved c =
    let files = c.args.set.now in
    let rows = named_rows c.args.names.now c.args.rows.now in
    named_pushed c.args.names.now (λ (file : FileTree). next_row files c.args.kind rows (name_of file)) c.loop-place.next.items c.push.new.self.items c.in_ok-row.row (classes_of files) c.loop-place.place (file_of c.in-Some.class.now) (next_rows files c.args.kind rows) (sym c.in-Some.ensures)
    (c.in_ok-row.ensures ∙ ap (next_row files c.args.kind rows) c.class_name.ensures) c.in_ok-push.ensures.items c.loop-place.invariant
