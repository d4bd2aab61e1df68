-- Rows that are made by those of the classes directly above a class.
use Rattle.std.proofs.Common.{◌≡◌, ◌≢◌, ◌∙◌, ◌⊎◌, inl, inr, ℕ, zero, suc, ◌+◌, ◌<◌, ◌≤◌, Bool, true, false, ◌||◌, List, [], ◌∷◌, ◌++◌, length, take, get_or, refl, sym, ap, subst, arith, Option, Some, None, Bor}
use Rattle.std.specs.Prelude.{◌==◌, IfSome, slice_get}
use Rattle.std.specs.Option.{option_and_then, option_map, option_map_or, option_to_list}
use Rattle.std.specs.List.{list_any, filter_map, cons_option}
use Rattle.std.proofs.lemmas.List.Folds.{list_any-append}
use Rattle.std.proofs.lemmas.Bool.{false_from_ne_true}
use Rattle.std.proofs.lemmas.Bool.Decides.{eqb_tells}
use Rattle.model.specs.Names.{Name, name_eq}
use Rattle.model.specs.Tree.{FileTree}
use Rattle.model.specs.Classes.{Program, name_of, super_name_of, interface_names, classes_of, class_of, superclass_of, superinterfaces_of, is_named}
use Rattle.model.specs.ReferenceTypes.{is_subclass_or_implements}
use Rattle.hierarchy.specs.Places.{class_at, place_of}
use Rattle.hierarchy.proofs.Finding.{position_within, passes_at}
use Rattle.hierarchy.proofs.RowLaws.{name_eq_refl}
use Rattle.hierarchy.proofs.SetLaws.{name_at_place, same_name}
use Rattle.types.specs.declared.subclass_table.class_rows.ClassRows.{ClassRows}
use Rattle.types.specs.subclass_table.Rows.{has_bit, IsRow, IsOwnRow, IsBelowRow, FindOwnPlaces}
use Rattle.types.specs.subclass_table.Made.{IsMade, AreRowsAt, AreMade, IsNearRow, IsWithSuperclass}
use Rattle.types.specs.subclass_table.Settled.{IsSettled, EachOf, OfSome, is_near}
use Rattle.types.proofs.subclass_table.SetBits.{or_none}
use Rattle.types.proofs.subclass_table.Settling.{by_classes_above, settled_later}

-- ---- lists of names

each_append : (P : Name → Type 0) (xs ys : List Name) → EachOf P xs → EachOf P ys → EachOf P (xs ++ ys)
each_append P [] ys a b = b
each_append P (x ∷ xs) ys a b = (a.0, each_append P xs ys a.1 b)

-- the names that indices give, with that of one index more
pub index_taken : (h : ℕ → Option Name) (xs : List ℕ) (i : ℕ) → i < length xs
    → filter_map h (take (i + 1) xs) ≡ filter_map h (take i xs) ++ option_to_list (h (get_or xs i 0))
index_taken h [] i less = absurd (omega (arith, less))
index_taken h (x ∷ xs) zero less = by (h x)
  where
    by : (o : Option Name) → cons_option o [] ≡ option_to_list o
    by None = refl
    by (Some name) = refl
index_taken h (x ∷ xs) (suc i) less =
    let more : suc i + 1 ≡ suc (i + 1) = omega arith in
    ap (λ n. filter_map h (take n (x ∷ xs))) more ∙ by (h x) (index_taken h xs i (omega (arith, less)))
  where
    by : (o : Option Name) → filter_map h (take (i + 1) xs) ≡ filter_map h (take i xs) ++ option_to_list (h (get_or xs i 0))
        → cons_option o (filter_map h (take (i + 1) xs)) ≡ cons_option o (filter_map h (take i xs)) ++ option_to_list (h (get_or xs i 0))
    by None rest = rest
    by (Some name) rest = ap (λ l. name ∷ l) rest

-- ---- rows

module _ (files : Program) (columns : List (Option ℕ)) where
  pub same_test : (p q : Name → Bool) (row : List ℕ) → ((d : Name) → p d ≡ q d) → IsRow files columns p row → IsRow files columns q row
  same_test p q row same is class column above at there = is class column above at there ∙ same (name_of above)

  pub none_added : (p : Name → Bool) (row : List ℕ) → IsRow files columns p row → IsRow files columns (λ d. p d || false) row
  none_added p row is = same_test p (λ d. p d || false) row (λ d. sym (or_none (p d))) is

  pub row_added : (p q : Name → Bool) (row other new : List ℕ) → IsRow files columns p row → IsRow files columns q other
      → ((column : ℕ) → has_bit new column ≡ (has_bit row column || has_bit other column))
      → IsRow files columns (λ d. p d || q d) new
  row_added p q row other new is its bits class column above at there =
      bits column ∙ ap (λ b. b || has_bit other column) (is class column above at there) ∙ ap (λ b. p (name_of above) || b) (its class column above at there)

  -- no other class has the name of the class at a place
  pub own : (place : ℕ) (file : FileTree) (row : List ℕ) → FindOwnPlaces files → class_at files place ≡ Some file
      → IsOwnRow columns place row → IsRow files columns (name_eq (name_of file)) row
  own place file row find is its class column above at there = its class column at ∙ by (eqb_tells place class)
    where
      same_place : name_eq (name_of file) (name_of above) ≡ true → place ≡ class
      same_place same =
          let first : place_of files (name_of file) ≡ place_of files (name_of above) = ap (place_of files) (same_name (name_of file) (name_of above) same) in
          let both : Some place ≡ Some class = sym (find place file is) ∙ first ∙ find class above there in cc

      by : (((place == class) ≡ true) × (place ≡ class)) ⊎ (((place == class) ≡ false) × (place ≢ class))
          → (place == class) ≡ name_eq (name_of file) (name_of above)
      by (inl same) =
          let one : Some file ≡ Some above = sym is ∙ ap (class_at files) same.1 ∙ there in
          let file_is : file ≡ above = cc in
          same.0 ∙ sym (ap (λ (f : FileTree). name_eq (name_of file) (name_of f)) (sym file_is) ∙ name_eq_refl (name_of file))
      by (inr apart) = apart.0 ∙ sym (false_from_ne_true (name_eq (name_of file) (name_of above)) (λ e. apart.1 (same_place e)))

  pub interface_added : (p : Name → Bool) (row other new : List ℕ) (names : List Name) (name : Name) → names ≡ name ∷ []
      → IsRow files columns p row → IsRow files columns (is_near files name) other
      → ((column : ℕ) → has_bit new column ≡ (has_bit row column || has_bit other column))
      → IsRow files columns (λ d. p d || list_any (λ i. is_near files i d) names) new
  interface_added p row other new names name are is its bits =
      subst (λ l. IsRow files columns (λ d. p d || list_any (λ i. is_near files i d) l) new) (sym are)
      (same_test (λ d. p d || is_near files name d) (λ d. p d || (is_near files name d || false)) new (λ d. ap (λ b. p d || b) (sym (or_none (is_near files name d)))) (row_added p (is_near files name) row other new is its bits))

  pub with_superclass : (steps : ℕ) (file : FileTree) (p : Name → Bool) (row other new : List ℕ) (name : Name)
      → super_name_of file ≡ Some name → IsSettled files steps name → IsRow files columns p row
      → IsRow files columns (is_subclass_or_implements files name) other
      → ((column : ℕ) → has_bit new column ≡ (has_bit row column || has_bit other column)) → IsWithSuperclass files columns steps file p new
  with_superclass steps file p row other new name super settled is its bits = record {
    settled = subst (OfSome (IsSettled files steps)) (sym super) settled;
    says = subst (λ o. IsRow files columns (λ d. p d || option_map_or (λ s. is_subclass_or_implements files s d) o false) new) (sym super) (row_added p (is_subclass_or_implements files name) row other new is its bits);
  }

  -- ---- rows that are made

  module _ (width steps : ℕ) where
    pub made_at : (made : List (Option ClassRows)) (place : ℕ) (name : Name) → AreMade files columns width steps made
        → place_of files name ≡ Some place
        → IfSome (option_and_then (λ (rows : Option ClassRows). rows) (slice_get made place)) (IsMade files columns width steps name)
    made_at made place name are found = by (slice_get made place) refl
      where
        at_class : (rows : ClassRows) → AreRowsAt files columns width steps place (Some rows) → (o : Option FileTree)
            → class_at files place ≡ o → IsMade files columns width steps name rows
        at_class rows its None e = absurd (nothing (classes_of files) place (position_within (is_named name) (classes_of files) place found) e)
          where
            nothing : {A : Type 0} (xs : List A) (k : ℕ) → k < length xs → slice_get xs k ≡ None → ⊥
            nothing [] k less e = omega (arith, less)
            nothing (x ∷ xs) zero less e = absurd cc
            nothing (x ∷ xs) (suc k) less e = nothing xs k (omega (arith, less)) e
        at_class rows its (Some file) e = subst (λ n. IsMade files columns width steps n rows) (name_at_place files name place file found e) (its file e)

        by : (o : Option (Option ClassRows)) → slice_get made place ≡ o
            → IfSome (option_and_then (λ (rows : Option ClassRows). rows) o) (IsMade files columns width steps name)
        by None at = tt
        by (Some None) at = tt
        by (Some (Some rows)) at = at_class rows (are place (Some rows) at) (class_at files place) refl

    pub rows_later : (more place : ℕ) (rows : Option ClassRows) → steps ≤ more → AreRowsAt files columns width steps place rows
        → AreRowsAt files columns width more place rows
    rows_later more place None less its = tt
    rows_later more place (Some rows) less its = λ file at.
        let made = its file at in
        record { settled = settled_later files steps more (name_of file) less made.settled; near_wide = made.near_wide; below_wide = made.below_wide; near = made.near; below = made.below }

    pub below_at : (made : List (Option ClassRows)) (place : ℕ) (file : FileTree) → AreMade files columns width steps made
        → class_at files place ≡ Some file
        → IfSome (option_and_then (λ (rows : Option ClassRows). rows) (slice_get made place))
        (λ rows. IsBelowRow files columns width (name_of file) rows.below.items)
    below_at made place file are is = by (slice_get made place) refl
      where
        by : (o : Option (Option ClassRows)) → slice_get made place ≡ o
            → IfSome (option_and_then (λ (rows : Option ClassRows). rows) o)
            (λ rows. IsBelowRow files columns width (name_of file) rows.below.items)
        by None at = tt
        by (Some None) at = tt
        by (Some (Some rows)) at = let its = are place (Some rows) at file is in record { wide = its.below_wide; says = its.below }

    pub made_later : (more : ℕ) (made : List (Option ClassRows)) → steps ≤ more → AreMade files columns width steps made
        → AreMade files columns width more made
    made_later more made less are place rows at = rows_later more place rows less (are place rows at)

  -- ---- the row of a class and what is above it by superinterfaces alone, so far

  pub record IsNearSoFar (steps : ℕ) (file : FileTree) (names : List Name) (row : List ℕ) : Type 0 where
    pub settled : EachOf (IsSettled files steps) names
    pub says : IsRow files columns (λ d. name_eq (name_of file) d || list_any (λ i. is_near files i d) names) row

  pub near_begins : (steps : ℕ) (file : FileTree) (row : List ℕ) → IsRow files columns (name_eq (name_of file)) row
      → IsNearSoFar steps file [] row
  near_begins steps file row is = record { settled = tt; says = none_added (name_eq (name_of file)) row is }

  pub near_ends : (steps : ℕ) (file : FileTree) (names : List Name) (row : List ℕ) → names ≡ interface_names file
      → IsNearSoFar steps file names row → IsNearRow files columns steps file row
  near_ends steps file names row all so_far =
      let whole = subst (λ l. IsNearSoFar steps file l row) all so_far in
      record { settled = whole.settled; says = whole.says }

  or_more : (a b c : Bool) → ((a || b) || c) ≡ (a || (b || c))
  or_more true b c = refl
  or_more false b c = refl

  pub near_more : (steps : ℕ) (file : FileTree) (names more all : List Name) (row new : List ℕ) → IsNearSoFar steps file names row
      → EachOf (IsSettled files steps) more → all ≡ names ++ more
      → (((p : Name → Bool) → IsRow files columns p row → IsRow files columns (λ d. p d || list_any (λ i. is_near files i d) more) new))
      → IsNearSoFar steps file all new
  near_more steps file names more all row new so_far settled is added =
      subst (λ l. IsNearSoFar steps file l new) (sym is) (record {
        settled = each_append (IsSettled files steps) names more so_far.settled settled;
        says = same_test (λ d. (name_eq (name_of file) d || list_any (λ i. is_near files i d) names) || list_any (λ i. is_near files i d) more)
            (λ d. name_eq (name_of file) d || list_any (λ i. is_near files i d) (names ++ more)) new
            (λ d. or_more (name_eq (name_of file) d) (list_any (λ i. is_near files i d) names) (list_any (λ i. is_near files i d) more)
            ∙ ap (λ b. name_eq (name_of file) d || b) (sym (list_any-append (λ i. is_near files i d) names more)))
            (added (λ d. name_eq (name_of file) d || list_any (λ i. is_near files i d) names) so_far.says);
      })

  -- ---- both rows

  pub rows_made : (width steps place : ℕ) (file : FileTree) (rows : ClassRows) → FindOwnPlaces files → class_at files place ≡ Some file
      → steps < length (classes_of files)
      → length rows.near.items ≡ width → length rows.below.items ≡ width → IsNearRow files columns steps file rows.near.items
      → ((p : Name → Bool) → IsRow files columns p rows.near.items → IsWithSuperclass files columns steps file p rows.below.items)
      → AreRowsAt files columns width (steps + 1) place (Some rows)
  rows_made width steps place file rows find is few near_wide below_wide near below other at =
      let one : Some file ≡ Some other = sym is ∙ at in
      let file_is : file ≡ other = cc in
      subst (λ (f : FileTree). IsMade files columns width (steps + 1) (name_of f) rows) file_is made
    where
      class : class_of files (name_of file) ≡ Some file
      class = passes_at (is_named (name_of file)) (classes_of files) place file (find place file is) is

      interfaces : superinterfaces_of files (name_of file) ≡ interface_names file
      interfaces = ap (λ (o : Option FileTree). option_map_or interface_names o []) class

      superclass : superclass_of files (name_of file) ≡ super_name_of file
      superclass = ap (λ (o : Option FileTree). option_and_then super_name_of o) class

      settled : OfSome (IsSettled files steps) (super_name_of file)
      settled = (below (λ d. name_eq (name_of file) d || list_any (λ i. is_near files i d) (interface_names file)) near.says).settled

      above : IsSettled files (steps + 1) (name_of file)
          × ((d : Name) → is_near files (name_of file) d
          ≡ (name_eq (name_of file) d || list_any (λ i. is_near files i d) (superinterfaces_of files (name_of file))))
          × ((d : Name) → is_subclass_or_implements files (name_of file) d
          ≡ (is_near files (name_of file) d || option_map_or (λ s. is_subclass_or_implements files s d)
          (superclass_of files (name_of file)) false))
      above = by_classes_above files steps (name_of file) few (subst (EachOf (IsSettled files steps)) (sym interfaces) near.settled) (subst (OfSome (IsSettled files steps)) (sym superclass) settled)

      near_row : IsRow files columns (is_near files (name_of file)) rows.near.items
      near_row = same_test (λ d. name_eq (name_of file) d || list_any (λ i. is_near files i d) (interface_names file)) (is_near files (name_of file)) rows.near.items
          (λ d. sym (above.1 d ∙ ap (λ l. name_eq (name_of file) d || list_any (λ i. is_near files i d) l) interfaces)) near.says

      below_row : IsRow files columns (is_subclass_or_implements files (name_of file)) rows.below.items
      below_row = same_test (λ d. is_near files (name_of file) d || option_map_or (λ s. is_subclass_or_implements files s d) (super_name_of file) false) (is_subclass_or_implements files (name_of file)) rows.below.items
          (λ d. sym (above.2 d ∙ ap (λ (o : Option Name). is_near files (name_of file) d || option_map_or (λ s. is_subclass_or_implements files s d) o false) superclass)) (below (is_near files (name_of file)) near_row).says

      made : IsMade files columns width (steps + 1) (name_of file) rows
      made = record { settled = above.0; near_wide = near_wide; below_wide = below_wide; near = near_row; below = below_row }

-- the value of a reference that may be there
pub of_value : {A : Type 0} (P : A → Type 0) (o : Option (Bor A)) → IfSome (option_map (λ r. r.now) o) P → IfSome o (λ r. P r.now)
of_value P None h = tt
of_value P (Some r) h = h

pub of_some : {A : Type 0} (P : A → Type 0) (o : Option A) (x : A) → o ≡ Some x → IfSome o P → P x
of_some P o x is h = subst (λ r. IfSome r P) is h
