-- Rows for each class, pushed one after the other.
use Rattle.std.proofs.Common.{◌≡◌, ℕ, ◌+◌, ◌<◌, List, [], ◌∷◌, ◌++◌, length, map, get_or, sym, ap, subst, ◌∙◌, arith, below_more, Some, Vec, Global}
use Rattle.std.proofs.lemmas.List.{get_or_append_left, get_or-append-add, length-append, map-append}
use Rattle.std.proofs.lemmas.Option.{slice_get_within}
use Rattle.model.specs.Tree.{FileTree}
use Rattle.model.specs.Classes.{Program, classes_of}
use Rattle.hierarchy.specs.Places.{class_at}
use Rattle.linked_program.specs.type_tables.Rows.{AreRows}

abbrev pub items_of : {A : Type 0} → List (Vec A Global) → List (List A)
items_of rows = map (λ row. row.items) rows

module _ {A : Type 0} (files : Program) (Is : FileTree → List A → Type 0) where
  abbrev IsAt : ℕ → List A → Type 0
  IsAt class row = (file : FileTree) → class_at files class ≡ Some file → Is file row

  -- those of the first so many classes
  abbrev pub Before : List (List A) → ℕ → Type 0
  Before rows n = (length rows ≡ n) × ((class : ℕ) → class < n → (file : FileTree) → class_at files class ≡ Some file → Is file (get_or rows class []))

  pub none_before : (rows : List (Vec A Global)) → rows ≡ [] → Before (items_of rows) 0
  none_before rows is = (ap (λ l. length (items_of l)) is, λ k below. absurd (omega (arith, below)))

  pub more_before : (rows new : List (Vec A Global)) (n : ℕ) (row : Vec A Global) → Before (items_of rows) n → new ≡ rows ++ row ∷ []
      → ((file : FileTree) → class_at files n ≡ Some file → Is file row.items) → Before (items_of new) (n + 1)
  more_before rows new n row before pushed is =
      let count = before.0 in
      let all = items_of rows in
      let last : get_or (all ++ row.items ∷ []) n [] ≡ row.items = ap (λ (j : ℕ). get_or (all ++ row.items ∷ []) j []) (omega (arith, count)) ∙ get_or-append-add all (row.items ∷ []) 0 [] in
      subst (λ (l : List (List A)). Before l (n + 1)) (sym (ap items_of pushed ∙ map-append (λ (row : Vec A Global). row.items) rows (row ∷ []))) (
        omega (arith, count, length-append all (row.items ∷ [])),
        below_more (λ (k : ℕ). IsAt k (get_or (all ++ row.items ∷ []) k [])) n
            (λ k below. subst (λ (l : List A). IsAt k l) (sym (get_or_append_left all (row.items ∷ []) [] k (omega (arith, below, count)))) (before.1 k below))
            (subst (λ (l : List A). IsAt n l) (sym last) is),
      )

  pub all_rows : (rows : List (Vec A Global)) (n : ℕ) → n ≡ length (classes_of files) → Before (items_of rows) n
      → AreRows files Is (items_of rows)
  all_rows rows n whole before =
      record {
        count = before.0 ∙ whole;
        each = λ class file at. before.1 class (omega (arith, whole, slice_get_within (classes_of files) class file at)) file at;
      }
