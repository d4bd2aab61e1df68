use Rattle.std.proofs.Common.{arith, ◌≡◌, ◌≤◌, ◌++◌, ◌∷◌, [], length, ap}
use Rattle.std.proofs.lemmas.Option.{slice_get_past}
use Rattle.linked_code.specs.Numbers.{methods_of}
use Rattle.linker.proofs.field_links.RowLaws.{all_paired}
use Rattle.method_tables.specs.method_links.Methods.{member_at}
use Rattle.linked_program.specs.method_rows.Rows.{IsMethodRow}
use Rattle.linked_program.proofs.method_rows.Facts.{row_pushed, are_rows, same_methods}
use Rattle.linked_program.proofs.method_rows.rows.method_rows.Goals as goal

pub loop-number-preserved : goal.loop-number-preserved
loop-number-preserved c =
    let files = c.args.set.now in
    let pushed : c.push.new.self.items ≡ c.loop-number.rows.items ++ c.in-Some-row_at.row ∷ [] = c.in_ok-push.ensures.items in
    row_pushed files c.loop-number.number c.loop-number.rows.items c.push.new.self.items c.in-Some-row_at.row (member_at files c.in-Some.place)
    (c.in-Some.ensures.method files c.requires.numbers) c.in-Some-row_at.ensures c.loop-number.invariant pushed

pub returns : goal.returns
returns c =
    let files = c.args.set.now in
    let past : length (methods_of files) ≤ c.loop-number.number = omega (arith, c.loop-number-test.false, c.count-number-end.ensures.methods files c.requires.numbers, ap length (same_methods files)) in
    are_rows files (methods_of files) c.loop-number.rows.items
    (all_paired (IsMethodRow files) (methods_of files) c.loop-number.number c.loop-number.rows.items (slice_get_past (methods_of files) c.loop-number.number past) c.loop-number.invariant)
