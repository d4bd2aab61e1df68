use Rattle.std.proofs.Common.{arith, ◌≤◌, ℕ, Option, length, sym}
use Rattle.std.specs.Option.{option_and_then}
use Rattle.classfile.specs.View.{file_of}
use Rattle.model.specs.Tree.{FileTree}
use Rattle.model.specs.Pool.{class_name_at}
use Rattle.model.specs.Classes.{Program, classes_of}
use Rattle.hierarchy.specs.Places.{place_of}
use Rattle.linker.proofs.field_links.NumberLaws.{none_said, more_said, all_said, past_classes}
use Rattle.linker.proofs.field_links.class_numbers.number_rows.Goals as goal

abbrev says : Program → FileTree → ℕ → Option ℕ
says files file index = option_and_then (place_of files) (class_name_at file.pool index)

pub loop-place-init : goal.loop-place-init
loop-place-init c = none_said c.args.set.now (says c.args.set.now) c.new-rows.result.items c.new-rows.ensures.items

pub loop-place-preserved : goal.loop-place-preserved
loop-place-preserved c =
    let files = c.args.set.now in
    more_said files (says files) c.loop-place.rows.items c.push.new.self.items c.in_ok-number_row.field-0 c.loop-place.place (file_of c.in-Some.file.now) (sym c.in-Some.ensures) c.loop-place.invariant c.in_ok-number_row.ensures c.in_ok-push.ensures.items

pub returns-in_default : goal.returns-in_default
returns-in_default c =
    let files = c.args.set.now in
    all_said files (says files) c.loop-place.rows.items c.loop-place.place (sym c.in_default.ensures) c.loop-place.invariant

pub returns : goal.returns
returns c =
    let files = c.args.set.now in
    let count : length (classes_of files) ≤ c.loop-place.place = omega (arith, c.count-place-end.ensures, c.loop-place-test.false) in
    all_said files (says files) c.loop-place.rows.items c.loop-place.place (past_classes files (says files) c.loop-place.place count) c.loop-place.invariant
