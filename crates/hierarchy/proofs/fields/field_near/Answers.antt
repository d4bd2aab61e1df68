use Rattle.std.proofs.Common.{◌≡◌, ◌∙◌, ◌∷◌, [], ℕ, suc, Option, None, Some, List, length, ap, sym, subst}
use Rattle.std.specs.Prelude.{IfSome, option_map, slice_get}
use Rattle.std.specs.Option.{option_and_then, option_map_or, option_or}
use Rattle.model.specs.Names.{Name, Member}
use Rattle.model.specs.Classes.{Program, classes_of, interfaces_above}
use Rattle.model.specs.Lookup.{field_in_class, first_found}
use Rattle.hierarchy.specs.declared.rows.Above.TheVariants as above
use Rattle.hierarchy.specs.Above.{each_once, row_of, rows_of}
use Rattle.hierarchy.specs.Numbers.{names_of, named_rows}
use Rattle.hierarchy.specs.Places.{place_of, name_at, member_in, IsFieldAt}
use Rattle.hierarchy.proofs.RowLaws.{row_is}
use Rattle.hierarchy.proofs.Walks.{found_once, above_is}
use Rattle.hierarchy.proofs.NumberLaws.{named_row}
use Rattle.hierarchy.proofs.PlaceLaws.{field_by_place, is_field_at}
use Rattle.hierarchy.proofs.fields.field_near.Goals as goal

-- where the class declares none, the field is one of its row
in_row : (files : Program) (m : Member) (class : Name) (rows : List (List Name)) (row : List Name)
    → rows ≡ rows_of files above.Interfaces (suc (length (classes_of files))) → row ≡ row_of files rows class
    → None ≡ field_in_class files m class
    → first_found (field_in_class files m) row ≡ first_found (field_in_class files m) (class ∷ interfaces_above files class)
in_row files m class rows row are is none =
    ap (first_found (field_in_class files m)) (is ∙ ap (λ r. row_of files r class) are ∙ row_is files above.Interfaces (suc (length (classes_of files))) class ∙ ap each_once (above_is files class))
    ∙ found_once (field_in_class files m) (interfaces_above files class)
    ∙ ap (λ o. option_or o (first_found (field_in_class files m) (interfaces_above files class))) none

-- the row at the place of a class is that of its name
at_place : (files : Program) (rows : List (List ℕ)) (class : ℕ) (row : List ℕ) → place_of files (name_at files class) ≡ Some class
    → row ≡ option_map_or (λ row. row) (slice_get rows class) [] → row ≡ row_of files rows (name_at files class)
at_place files rows class row stood is =
    is ∙ ap (λ (o : Option ℕ). option_map_or (λ row. row) (option_and_then (slice_get rows) o) []) (sym stood)

pub returns-in-Some : goal.returns-in-Some
returns-in-Some c =
    let files = c.args.sought.now.files in
    let m = c.args.sought.now.member in
    let class = name_at files c.args.class in
    record {
      found =
          ap (λ o. option_or o (first_found (field_in_class files m) (interfaces_above files class)))
          (ap (option_map (member_in files m)) c.in-Some.ensures ∙ field_by_place files m class c.args.class c.requires.stood);
      place = subst (λ o. IfSome o (IsFieldAt files m)) (sym c.in-Some.ensures) (is_field_at files m c.args.class);
    }

pub returns-in-Some-row_at-clause-found : goal.returns-in-Some-row_at-clause-found
returns-in-Some-row_at-clause-found c =
    let files = c.args.sought.now.files in
    let m = c.args.sought.now.member in
    let names = c.args.names.now in
    let rows = c.args.interfaces.now in
    let class = name_at files c.args.class in
    let row = c.in-Some-row_at.row.now in
    c.field_among.ensures.found
    ∙ in_row files m class (named_rows names rows) (names_of names row) c.requires.rows (named_row files names rows row class (at_place files rows c.args.class row c.requires.stood c.in-Some-row_at.ensures))
    (ap (option_map (member_in files m)) c.in_default.ensures ∙ field_by_place files m class c.args.class c.requires.stood)

pub returns-in-None-clause-found : goal.returns-in-None-clause-found
returns-in-None-clause-found c =
    let files = c.args.sought.now.files in
    let m = c.args.sought.now.member in
    let names = c.args.names.now in
    let rows = c.args.interfaces.now in
    let class = name_at files c.args.class in
    in_row files m class (named_rows names rows) _ c.requires.rows (named_row files names rows _ class (at_place files rows c.args.class _ c.requires.stood c.in-None.ensures))
    (ap (option_map (member_in files m)) c.in_default.ensures ∙ field_by_place files m class c.args.class c.requires.stood)
