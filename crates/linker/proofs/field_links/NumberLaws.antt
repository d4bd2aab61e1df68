-- What the tables of numbers say.
use Rattle.std.proofs.Common.{◌≡◌, ℕ, ◌+◌, ◌<◌, ◌≤◌, ◌^◌, List, [], ◌∷◌, ◌++◌, length, map, take, refl, sym, ap, subst, ◌∙◌, Option, Some, None, Vec, Global}
use Rattle.std.specs.Prelude.{slice_get}
use Rattle.std.specs.Option.{option_and_then}
use Rattle.std.proofs.lemmas.List.{map-append}
use Rattle.std.proofs.lemmas.Option.{slice_get_past}
use Rattle.model.specs.Tree.{FileTree}
use Rattle.model.specs.Classes.{Program, classes_of}
use Rattle.linker.specs.field_links.Numbers.{number_in, number_at}
use Rattle.linker.proofs.field_links.RowLaws.{Pairs, pair_pushed, all_paired, pair_at, no_pair}

abbrev pub Row : Type 0
Row = Vec (Option ℕ) Global

abbrev pub items_of : List Row → List (List (Option ℕ))
items_of rows = map (λ (row : Row). row.items) rows

module _ (files : Program) (says : FileTree → ℕ → Option ℕ) where
  -- a row says it of each index
  abbrev pub Says : FileTree → List (Option ℕ) → Type 0
  Says file row = (index : ℕ) → index < 2 ^ 16 → number_in row index ≡ says file index

  -- the rows of the first so many classes
  abbrev pub SaidBefore : ℕ → List Row → Type 0
  SaidBefore i rows = Pairs Says (take i (classes_of files)) (items_of rows)

  pub none_said : (rows : List Row) → rows ≡ [] → SaidBefore 0 rows
  none_said rows is = subst (λ (l : List Row). Pairs Says [] (items_of l)) (sym is) tt

  pub more_said : (rows new : List Row) (row : Row) (i : ℕ) (file : FileTree) → slice_get (classes_of files) i ≡ Some file
      → SaidBefore i rows → Says file row.items → new ≡ rows ++ row ∷ [] → SaidBefore (i + 1) new
  more_said rows new row i file at h r pushed =
      pair_pushed Says (classes_of files) i (items_of rows) (items_of new) file row.items at h r (ap items_of pushed ∙ map-append (λ (row : Row). row.items) rows (row ∷ []))

  pub all_said : (rows : List Row) (i : ℕ) → slice_get (classes_of files) i ≡ None → SaidBefore i rows
      → (class index : ℕ) → index < 2 ^ 16 → number_at (items_of rows) class index
      ≡ option_and_then (λ (file : FileTree). says file index) (slice_get (classes_of files) class)
  all_said rows i past h class index fits = by (slice_get (classes_of files) class) refl
    where
      all : Pairs Says (classes_of files) (items_of rows)
      all = all_paired Says (classes_of files) i (items_of rows) past h

      by : (o : Option FileTree) → slice_get (classes_of files) class ≡ o
          → number_at (items_of rows) class index ≡ option_and_then (λ (file : FileTree). says file index) o
      by None at = ap (λ (o : Option (List (Option ℕ))). option_and_then (λ row. number_in row index) o) (no_pair Says (classes_of files) (items_of rows) class all at)
      by (Some file) at =
          let row = pair_at Says (classes_of files) (items_of rows) class file all at in
          ap (λ (o : Option (List (Option ℕ))). option_and_then (λ row. number_in row index) o) row.1 ∙ row.2 index fits

  pub past_classes : (i : ℕ) → length (classes_of files) ≤ i → slice_get (classes_of files) i ≡ None
  past_classes i le = slice_get_past (classes_of files) i le
