use Rattle.std.proofs.Common.{◌≡◌, ◌∙◌, ◌-◌, List, None, length, sym, ap}
use Rattle.std.specs.Prelude.{option_map}
use Rattle.std.specs.Option.{option_or}
use Rattle.constant_pool.specs.View.{reference_of}
use Rattle.model.specs.Names.{Name, Member}
use Rattle.model.specs.Classes.{Program, classes_of}
use Rattle.model.specs.Lookup.{field_in_class, first_found, find_field}
use Rattle.hierarchy.specs.declared.rows.Above.TheVariants as above
use Rattle.hierarchy.specs.Above.{names_above, directly_above, row_of, rows_of}
use Rattle.hierarchy.specs.Numbers.{names_of, named_rows}
use Rattle.hierarchy.specs.Places.{member_in}
use Rattle.hierarchy.proofs.RowLaws.{row_is}
use Rattle.hierarchy.proofs.Walks.{found_once, find_field_is}
use Rattle.hierarchy.proofs.NumberLaws.{named_row}
use Rattle.hierarchy.proofs.PlaceLaws.{of_sought}
use Rattle.hierarchy.proofs.fields.field_among_supertypes.Goals as goal

-- where the class declares none, the field is one of what is above it
above_alone : (files : Program) (m : Member) (rows : List (List Name)) (row : List Name) → None ≡ field_in_class files m m.class
    → rows ≡ rows_of files above.Supertypes (length (classes_of files) - 1) → row ≡ row_of files rows m.class
    → first_found (field_in_class files m) row ≡ find_field files m
above_alone files m rows row none are is =
    let n = length (classes_of files) - 1 in
    let names = names_above (directly_above files above.Supertypes) n m.class in
    ap (first_found (field_in_class files m)) (is ∙ ap (λ r. row_of files r m.class) are ∙ row_is files above.Supertypes n m.class)
    ∙ found_once (field_in_class files m) names ∙ ap (λ o. option_or o (first_found (field_in_class files m) names)) none ∙ sym (find_field_is files m)

pub returns-in-Some-row_of-clause-found : goal.returns-in-Some-row_of-clause-found
returns-in-Some-row_of-clause-found c =
    let files = c.args.set.now in
    let names = c.args.names.now in
    let m = reference_of c.args.field in
    of_sought (λ f n. option_map (λ p. member_in f n p) c.field_among.result ≡ first_found (field_in_class f n) (names_of names c.in-Some-row_of.row.now)) c.sought.result files m c.sought.ensures.files c.sought.ensures.member c.field_among.ensures.found
    ∙ above_alone files m (named_rows names c.args.supertypes.now) (names_of names c.in-Some-row_of.row.now) c.in_default.ensures.found c.requires.rows (named_row files names c.args.supertypes.now c.in-Some-row_of.row.now m.class c.in-Some-row_of.ensures)

pub returns-in-None-clause-found : goal.returns-in-None-clause-found
returns-in-None-clause-found c =
    let files = c.args.set.now in
    let names = c.args.names.now in
    let m = reference_of c.args.field in
    above_alone files m (named_rows names c.args.supertypes.now) _ c.in_default.ensures.found c.requires.rows (named_row files names c.args.supertypes.now _ m.class c.in-None.ensures)
