use Rattle.std.proofs.Common.{sym}
use Rattle.model.specs.Lookup.{field_in_class, first_found}
use Rattle.hierarchy.specs.Places.{member_in}
use Rattle.hierarchy.specs.Numbers.{names_of}
use Rattle.hierarchy.proofs.NumberLaws.{number_found, number_next}
use Rattle.hierarchy.proofs.fields.field_among.Goals as goal

pub returns-in-Some-field_of-clause-found : goal.returns-in-Some-field_of-clause-found
returns-in-Some-field_of-clause-found c =
    let sought = c.args.sought.now in
    let found = field_in_class sought.files sought.member in
    let names = c.args.names.now in
    number_found found names c.args.row.now c.loop-place.place c.in-Some.number (member_in sought.files sought.member c.in-Some-field_of.found) (first_found found (names_of names c.args.row.now)) (sym c.in-Some.ensures) c.in-Some-field_of.ensures.found c.loop-place.invariant

pub loop-place-preserved : goal.loop-place-preserved
loop-place-preserved c =
    let sought = c.args.sought.now in
    let found = field_in_class sought.files sought.member in
    let names = c.args.names.now in
    number_next found names c.args.row.now c.loop-place.place c.in-Some.number (first_found found (names_of names c.args.row.now)) (sym c.in-Some.ensures) c.in_default-field_of.ensures.found c.loop-place.invariant
