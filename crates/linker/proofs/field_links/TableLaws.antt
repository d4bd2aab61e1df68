-- What the tables of links say.
use Rattle.std.proofs.Common.{◌≡◌, ℕ, ◌+◌, ◌≤◌, List, [], ◌∷◌, ◌++◌, length, map, take, refl, sym, ap, subst, ◌∙◌, Option, Some, None, Vec, Global}
use Rattle.std.specs.Prelude.{slice_get, option_map}
use Rattle.std.specs.Option.{option_and_then}
use Rattle.std.proofs.lemmas.List.{map-append}
use Rattle.std.proofs.lemmas.Option.{slice_get_past}
use Rattle.model.specs.Names.{Member, member_eq}
use Rattle.model.specs.Tree.{FileTree}
use Rattle.model.specs.Pool.{field_at}
use Rattle.model.specs.Classes.{Program, name_of, classes_of}
use Rattle.model.specs.Lookup.{instance_fields}
use Rattle.linker.specs.declared.field_links.chain.Counted.{Counted}
use Rattle.linker.specs.declared.field_links.link.FieldLink.{FieldLink}
use Rattle.linker.specs.Linking.{IsLinked}
use Rattle.linker.specs.field_links.Chains.{count_in}
use Rattle.linker.specs.field_links.Links.{named_link, KeepsSlots}
use Rattle.linker.specs.field_links.Slots.{sizes}
use Rattle.linker.specs.field_links.Tables.{in_row, in_rows, IsRow, AreRows}
use Rattle.linker.proofs.field_links.Lineages.{kept}
use Rattle.linker.proofs.field_links.Sums.{get_no_map}
use Rattle.linker.proofs.field_links.OwnNames.{unrefused}
use Rattle.linker.proofs.field_links.RowLaws.{Pairs, pair_pushed, all_paired, pair_at, no_pair}
use Rattle.run_laws.proofs.laws.Lists.{get_map}

pub rows_say : (files : Program) (rows : List (List (Option FieldLink))) → Pairs (IsRow files) (classes_of files) rows → AreRows files rows
rows_say files rows h class index fits = by (slice_get (classes_of files) class) refl
  where
    by : (o : Option FileTree) → slice_get (classes_of files) class ≡ o
        → in_rows rows class index ≡ option_and_then (λ (file : FileTree). option_and_then (named_link files) (field_at file.pool index)) o
    by None at = ap (λ (o : Option (List (Option FieldLink))). option_and_then (λ row. in_row row index) o) (no_pair (IsRow files) (classes_of files) rows class h at)
    by (Some file) at =
        let row = pair_at (IsRow files) (classes_of files) rows class file h at in
        ap (λ (o : Option (List (Option FieldLink))). option_and_then (λ row. in_row row index) o) row.1 ∙ row.2 index fits

pub sizes_say : (files : Program) (what : Counted) (rows : List ℕ) → rows ≡ sizes what files → (class : ℕ)
    → slice_get rows class ≡ option_map (λ (file : FileTree). count_in what (instance_fields files (name_of file))) (slice_get (classes_of files) class)
unfolding sizes
sizes_say files what rows is class = ap (λ l. slice_get l class) is ∙ by (slice_get (classes_of files) class) refl
  where
    by : (o : Option FileTree) → slice_get (classes_of files) class ≡ o
        → slice_get (map (λ (file : FileTree). count_in what (instance_fields files (name_of file))) (classes_of files)) class
        ≡ option_map (λ (file : FileTree). count_in what (instance_fields files (name_of file))) o
    by None at = get_no_map (λ (file : FileTree). count_in what (instance_fields files (name_of file))) (classes_of files) class at
    by (Some file) at = get_map (λ (file : FileTree). count_in what (instance_fields files (name_of file))) (classes_of files) class file at

pub slots_kept : (files : Program) → IsLinked files → KeepsSlots files
slots_kept files linked class field slot below e = kept files (unrefused files linked) (λ (f : Member). member_eq f field) class field.class slot below e

-- ---- rows that are pushed

abbrev pub Row : Type 0
Row = Vec (Option FieldLink) Global

abbrev pub items_of : List Row → List (List (Option FieldLink))
items_of rows = map (λ (row : Row). row.items) rows

pub first_rows : (files : Program) (rows : List Row) → rows ≡ [] → Pairs (IsRow files) (take 0 (classes_of files)) (items_of rows)
first_rows files rows is = subst (λ (l : List Row). Pairs (IsRow files) [] (items_of l)) (sym is) tt

pub more_rows : (files : Program) (rows new : List Row) (row : Row) (i : ℕ) (file : FileTree) → slice_get (classes_of files) i ≡ Some file
    → Pairs (IsRow files) (take i (classes_of files)) (items_of rows) → IsRow files file row.items → new ≡ rows ++ row ∷ []
    → Pairs (IsRow files) (take (i + 1) (classes_of files)) (items_of new)
more_rows files rows new row i file at h r pushed =
    pair_pushed (IsRow files) (classes_of files) i (items_of rows) (items_of new) file row.items at h r (ap items_of pushed ∙ map-append (λ (row : Row). row.items) rows (row ∷ []))

pub all_rows : (files : Program) (rows : List Row) (i : ℕ) → slice_get (classes_of files) i ≡ None
    → Pairs (IsRow files) (take i (classes_of files)) (items_of rows) → AreRows files (items_of rows)
all_rows files rows i past h = rows_say files (items_of rows) (all_paired (IsRow files) (classes_of files) i (items_of rows) past h)

pub classes_past : (files : Program) (i : ℕ) → length (classes_of files) ≤ i → slice_get (classes_of files) i ≡ None
classes_past files i le = slice_get_past (classes_of files) i le
