use Rattle.std.proofs.Common.{◌≡◌, [], false, refl, sym}
use Rattle.std.specs.List.{list_any}
use Rattle.model.specs.Names.{name_eq}
use Rattle.hierarchy.specs.Above.{row_of}
use Rattle.hierarchy.proofs.Indices.{ok_weaken, no_position}
use Rattle.hierarchy.specs.Numbers.{named_rows}
use Rattle.hierarchy.proofs.NumberLaws.{named_row, number_is, with_row}
use Rattle.hierarchy.proofs.rows.add_with_row.Goals as goal

pub returns-in_default : goal.returns-in_default
returns-in_default c =
    let none : list_any (name_eq c.args.name.now) c.args.names.now ≡ false = no_position (name_eq c.args.name.now) c.args.names.now (sym c.in_default.ensures.number) in
    let there = c.requires in
    absurd cc

pub returns-in_default-row_of : goal.returns-in_default-row_of
returns-in_default-row_of c =
    let files = c.args.set.now in
    let names = c.args.names.now in
    let name = c.args.name.now in
    with_row names c.args.row.now c.add.new.self [] c.add.new.self c.in-Some.number name (row_of files (named_rows names c.args.rows.now) name) c.in-Some.ensures.apart
    (number_is names name c.in-Some.number c.in-Some.ensures.number) c.in_ok-add.ensures refl (named_row files names c.args.rows.now [] name c.in_default-row_of.ensures)

pub returns : goal.returns
returns c =
    let files = c.args.set.now in
    let names = c.args.names.now in
    let name = c.args.name.now in
    ok_weaken _ _ (λ _ is. with_row names c.args.row.now c.add.new.self c.in-Some-row_of.above.now c.add_all.new.self c.in-Some.number name (row_of files (named_rows names c.args.rows.now) name) c.in-Some.ensures.apart
    (number_is names name c.in-Some.number c.in-Some.ensures.number) c.in_ok-add.ensures is (named_row files names c.args.rows.now c.in-Some-row_of.above.now name c.in-Some-row_of.ensures)) c.add_all.result c.add_all.ensures
