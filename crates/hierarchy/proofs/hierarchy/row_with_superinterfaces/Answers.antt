use Rattle.std.proofs.Common.{◌≡◌, ◌∙◌, ◌-◌, List, None, length, sym, ap}
use Rattle.constant_pool.specs.View.{reference_of}
use Rattle.model.specs.Names.{Name, Member, java_lang_object}
use Rattle.model.specs.Classes.{Program, classes_of, lineage, all_superinterfaces}
use Rattle.model.specs.Lookup.{method_in_class, any_method, first_found}
use Rattle.hierarchy.specs.declared.rows.Above.TheVariants as above
use Rattle.hierarchy.specs.Above.{row_of, rows_of}
use Rattle.hierarchy.specs.Fields.{SuperinterfacesAreFlat}
use Rattle.hierarchy.specs.Numbers.{names_of, named_rows}
use Rattle.hierarchy.proofs.RowLaws.{row_is}
use Rattle.hierarchy.proofs.NumberLaws.{row_named}
use Rattle.hierarchy.proofs.MethodLaws.{among_supertypes, of_row}
use Rattle.hierarchy.proofs.hierarchy.row_with_superinterfaces.Goals as goal

in_row : (files : Program) (m : Member) (class : Name) (rows : List (List Name)) → SuperinterfacesAreFlat files
    → rows ≡ rows_of files above.Supertypes (length (classes_of files) - 1) → method_in_class files any_method m java_lang_object ≡ None
    → first_found (method_in_class files any_method m) (lineage files class) ≡ None
    → first_found (method_in_class files any_method m) (row_of files rows class)
    ≡ first_found (method_in_class files any_method m) (all_superinterfaces files class)
in_row files m class rows flat are object none =
    let f = method_in_class files any_method m in
    ap (first_found f) (ap (λ r. row_of files r class) are ∙ row_is files above.Supertypes (length (classes_of files) - 1) class) ∙ among_supertypes files flat f object class none

pub returns : goal.returns
returns c =
    let files = c.args.set.now in
    let names = c.args.names.now in
    let rows = c.args.supertypes.now in
    let class = c.args.class.now in
    let found = first_found (method_in_class files any_method (reference_of c.args.method)) in
    of_row c.row_of.result (λ row. row.now) (λ l. found (names_of names l) ≡ found (all_superinterfaces files class)) c.row_of.ensures
    (ap found (row_named files names rows class)
    ∙ in_row files (reference_of c.args.method) class (named_rows names rows) c.requires.flat c.requires.rows (sym c.in_default.ensures.found) (sym c.in_default-method_above.ensures.found))
