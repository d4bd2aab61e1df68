use Rattle.std.proofs.Common.{rules, arith, ◌≡◌, ◌≤◌, ◌∙◌, ◌++◌, ◌∷◌, [], length, length-append, map, sym, ap}
use Rattle.std.specs.Vec.Iter.{into_iter_items}
use Rattle.std.proofs.lemmas.Option.{slice_get_past}
use Rattle.classfile.specs.View.{file_of}
use Rattle.model.specs.Classes.{classes_of}
use Rattle.linked_code.specs.ClassRows.{IsLinkedClass}
use Rattle.linker.proofs.field_links.RowLaws.{pair_pushed, all_paired}
use Rattle.linked_program.specs.class_rows.Sources.{selections_of}
use Rattle.linked_program.proofs.class_rows.Filling.{are_classes, next_is, row_kept}
use Rattle.linked_program.proofs.class_rows.rows.class_rows.Goals as goal

pub row_of-requires-clause-rising : goal.row_of-requires-clause-rising
row_of-requires-clause-rising c =
    let kept : map selections_of c.loop-class.rows.items ++ (c.in-Some-next.selected ∷ into_iter_items c.next.new.self) ≡ c.args.selections.items =
    ap (λ l. map selections_of c.loop-class.rows.items ++ l) (sym c.in-Some-next.ensures.items) ∙ c.loop-class.invariant.kept in
    c.requires.rising c.loop-class.class c.in-Some-next.selected
    (next_is selections_of c.loop-class.rows.items (into_iter_items c.next.new.self) c.args.selections.items c.in-Some-next.selected c.loop-class.class kept c.loop-class.invariant.count)

pub loop-class-preserved : goal.loop-class-preserved
loop-class-preserved c =
    let files = c.args.sources.now.set.now in
    let row = c.in_ok-row_of.field-0 in
    let kept : map selections_of c.loop-class.rows.items ++ (c.in-Some-next.selected ∷ into_iter_items c.next.new.self) ≡ c.args.selections.items =
    ap (λ l. map selections_of c.loop-class.rows.items ++ l) (sym c.in-Some-next.ensures.items) ∙ c.loop-class.invariant.kept in
    let pushed : c.push.new.self.items ≡ c.loop-class.rows.items ++ row ∷ [] = search rules in
    let size = ap length pushed in
    record {
      slot = c.next_slot-slot.ensures;
      rows = pair_pushed (IsLinkedClass files) (classes_of files) c.loop-class.class c.loop-class.rows.items c.push.new.self.items (file_of c.in-Some.file.now) row (sym c.in-Some.ensures)
          c.loop-class.invariant.rows c.in_ok-row_of.ensures.row pushed;
      count = omega (arith, size, length-append c.loop-class.rows.items (row ∷ []), c.loop-class.invariant.count);
      kept = row_kept selections_of c.loop-class.rows.items c.push.new.self.items row (into_iter_items c.next.new.self) c.args.selections.items c.in-Some-next.selected c.in_ok-row_of.ensures.selections pushed kept;
    }

pub returns-clause-rows : goal.returns-clause-rows
returns-clause-rows c =
    let files = c.args.sources.now.set.now in
    let past : length (classes_of files) ≤ c.loop-class.class = omega (arith, c.count-class-end.ensures, c.loop-class-test.false) in
    are_classes files (classes_of files) c.loop-class.rows.items
    (all_paired (IsLinkedClass files) (classes_of files) c.loop-class.class c.loop-class.rows.items (slice_get_past (classes_of files) c.loop-class.class past) c.loop-class.invariant.rows)
