use Rattle.std.proofs.Common.{arith, ◌≡◌, ◌≤◌, ◌∙◌, length, sym, ap, Some, None}
use Rattle.std.specs.Prelude.{slice_get}
use Rattle.classfile.specs.View.{file_of}
use Rattle.model.specs.Classes.{Program, classes_of}
use Rattle.linker.proofs.field_links.TableLaws.{first_rows, more_rows, all_rows, classes_past}
use Rattle.linker.proofs.field_links.row.link_rows.Goals as goal

pub loop-place-init : goal.loop-place-init
loop-place-init c = first_rows c.args.hierarchy.now c.new-rows.result.items c.new-rows.ensures.items

pub loop-place-preserved : goal.loop-place-preserved
loop-place-preserved c =
    let files = c.args.hierarchy.now in
    let i = c.loop-place.place in
    let file = file_of c.in-Some.file.now in
    let at : slice_get (classes_of files) i ≡ Some file = ap (λ (f : Program). slice_get (classes_of f) i) (sym c.set-set.ensures) ∙ sym c.in-Some.ensures in
    more_rows files c.loop-place.rows.items c.push.new.self.items c.in_ok-link_row.field-0 i file at c.loop-place.invariant c.in_ok-link_row.ensures c.in_ok-push.ensures.items

pub returns-in_default : goal.returns-in_default
returns-in_default c =
    let files = c.args.hierarchy.now in
    let i = c.loop-place.place in
    let past : slice_get (classes_of files) i ≡ None = ap (λ (f : Program). slice_get (classes_of f) i) (sym c.set-set.ensures) ∙ sym c.in_default.ensures in
    all_rows files c.loop-place.rows.items i past c.loop-place.invariant

pub returns : goal.returns
returns c =
    let files = c.args.hierarchy.now in
    let i = c.loop-place.place in
    let count : length (classes_of files) ≤ i = omega (arith, ap (λ (f : Program). length (classes_of f)) c.set-set.ensures, c.count-place-end.ensures, c.loop-place-test.false) in
    all_rows files c.loop-place.rows.items i (classes_past files i count) c.loop-place.invariant
