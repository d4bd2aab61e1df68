use Rattle.std.proofs.Common.{◌≡◌, ◌∙◌, ◌-◌, List, length, sym, ap}
use Rattle.std.specs.List.{list_any}
use Rattle.model.specs.Names.{Name, name_eq}
use Rattle.model.specs.Classes.{Program, classes_of}
use Rattle.model.specs.Hierarchy.{is_above}
use Rattle.hierarchy.specs.declared.rows.Above.TheVariants as above
use Rattle.hierarchy.specs.Above.{row_of, rows_of, names_above, directly_above}
use Rattle.hierarchy.specs.Numbers.{names_of, named_rows}
use Rattle.hierarchy.proofs.RowLaws.{row_is}
use Rattle.hierarchy.proofs.Walks.{any_once, any_flip, above_any}
use Rattle.hierarchy.proofs.NumberLaws.{named_row}
use Rattle.hierarchy.proofs.cycles.has_above.Goals as goal

in_row : (files : Program) (class other : Name) (rows : List (List Name)) (row : List Name)
    → rows ≡ rows_of files above.Supertypes (length (classes_of files) - 1) → row ≡ row_of files rows class
    → list_any (name_eq other) row ≡ is_above files (length (classes_of files) - 1) class other
in_row files class other rows row are is =
    let n = length (classes_of files) - 1 in
    let names = names_above (directly_above files above.Supertypes) n class in
    ap (list_any (name_eq other)) (is ∙ ap (λ r. row_of files r class) are ∙ row_is files above.Supertypes n class) ∙ any_once (name_eq other) names ∙ any_flip other names ∙ sym (above_any files n other class)

pub returns-in-Some : goal.returns-in-Some
returns-in-Some c =
    let files = c.args.set.now in
    let names = c.args.names.now in
    let class = c.args.class.now in
    c.is_among.ensures ∙ in_row files class c.args.other.now (named_rows names c.args.supertypes.now) (names_of names c.in-Some.row.now) c.requires (named_row files names c.args.supertypes.now c.in-Some.row.now class c.in-Some.ensures)

pub returns-in-None : goal.returns-in-None
returns-in-None c =
    let files = c.args.set.now in
    let names = c.args.names.now in
    let class = c.args.class.now in
    in_row files class c.args.other.now (named_rows names c.args.supertypes.now) _ c.requires (named_row files names c.args.supertypes.now _ class c.in-None.ensures)
