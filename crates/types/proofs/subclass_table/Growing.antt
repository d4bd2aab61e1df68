-- Columns of one class more.
use Rattle.std.proofs.Common.{◌≡◌, ℕ, ◌+◌, ◌<◌, ◌≤◌, Bool, true, false, List, [], ◌∷◌, ◌++◌, length, refl, sym, ap, subst, ⊎_elim, ◌∙◌, arith, Option, Some, None}
use Rattle.std.specs.Prelude.{is_some, slice_get, slice_index_or}
use Rattle.std.specs.Option.{option_and_then}
use Rattle.std.proofs.lemmas.Bool.{cases_lt}
use Rattle.types.specs.subclass_table.Columns.{column_in, column_for, class_for}
use Rattle.types.proofs.subclass_table.Pushing.{get_before, get_front, get_last, get_pushed}

abbrev pub AreOf : List (Option ℕ) → List ℕ → Type 0
AreOf columns classes = (class column : ℕ) → column_in columns class ≡ Some column → slice_get classes column ≡ Some class

pub none_of : (columns : List (Option ℕ)) (classes : List ℕ) → columns ≡ [] → AreOf columns classes
none_of columns classes is = subst (λ l. AreOf l classes) (sym is) (λ class column e. absurd cc)

module _ (columns : List (Option ℕ)) (classes : List ℕ) (n : ℕ) (mark : Bool) (count : length columns ≡ n) where
  abbrev grown : List (Option ℕ)
  grown = columns ++ column_for mark (length classes) ∷ []

  here : (b : Bool) (column class : ℕ) → class ≡ n → column_for b (length classes) ≡ Some column
      → slice_get (classes ++ class_for b n) column ≡ Some class
  here true column class same e =
      let at : length classes ≡ column = cc in
      subst (λ k. slice_get (classes ++ n ∷ []) k ≡ Some class) at (subst (λ k. slice_get (classes ++ n ∷ []) (length classes) ≡ Some k) (sym same) (get_last classes n))
  here false column class same e = absurd cc

  of_grown : AreOf columns classes → AreOf grown (classes ++ class_for mark n)
  of_grown before class column e = by (slice_get grown class) refl e
    where
      by : (o : Option (Option ℕ)) → slice_get grown class ≡ o → option_and_then (λ (c : Option ℕ). c) o ≡ Some column
          → slice_get (classes ++ class_for mark n) column ≡ Some class
      by None at h = absurd cc
      by (Some c) at h = ⊎_elim
          (λ old. get_front classes (class_for mark n) column class (before class column (ap (option_and_then (λ (c : Option ℕ). c)) old ∙ h)))
          (λ new. here mark column class (new.0 ∙ count) (new.1 ∙ h))
          (get_pushed columns (column_for mark (length classes)) class c at)

  pub of_more : (columns' : List (Option ℕ)) (classes' : List ℕ) → columns' ≡ grown → classes' ≡ classes ++ class_for mark n
      → AreOf columns classes → AreOf columns' classes'
  of_more columns' classes' p q before =
      subst (λ l. AreOf l classes') (sym p) (subst (λ l. AreOf grown l) (sym q) (of_grown before))

  is_marked : (b : Bool) (k : ℕ) → is_some (column_for b k) ≡ b
  is_marked true k = refl
  is_marked false k = refl

  all_grown : (marks : List Bool) → slice_index_or marks n false ≡ mark
      → ((class : ℕ) → class < n → is_some (column_in columns class) ≡ slice_index_or marks class false)
      → (class : ℕ) → class < n + 1 → is_some (column_in grown class) ≡ slice_index_or marks class false
  all_grown marks is before class lt = ⊎_elim
      (λ less. ap (λ (o : Option (Option ℕ)). is_some (option_and_then (λ (c : Option ℕ). c) o)) (get_before columns (column_for mark (length classes) ∷ []) class (omega (arith, less, count))) ∙ before class less)
      (λ more. last class (omega (arith, lt, more)))
      (cases_lt class n)
    where
      last : (class : ℕ) → class ≡ n → is_some (column_in grown class) ≡ slice_index_or marks class false
      last class same =
          subst (λ k. is_some (column_in grown k) ≡ slice_index_or marks k false) (sym same)
          (subst (λ k. is_some (column_in grown k) ≡ slice_index_or marks n false) count
          (ap (λ (o : Option (Option ℕ)). is_some (option_and_then (λ (c : Option ℕ). c) o)) (get_last columns (column_for mark (length classes))) ∙ is_marked mark (length classes) ∙ sym is))

  pub all_more : (marks : List Bool) (columns' : List (Option ℕ)) → columns' ≡ grown → slice_index_or marks n false ≡ mark
      → ((class : ℕ) → class < n → is_some (column_in columns class) ≡ slice_index_or marks class false)
      → (class : ℕ) → class < n + 1 → is_some (column_in columns' class) ≡ slice_index_or marks class false
  all_more marks columns' p is before = subst (λ l. (class : ℕ) → class < n + 1 → is_some (column_in l class) ≡ slice_index_or marks class false) (sym p) (all_grown marks is before)

  pub count_more : (columns' : List (Option ℕ)) → columns' ≡ grown → length columns' ≡ n + 1
  count_more columns' p = ap length p ∙ omega (arith, count, more columns)
    where
      more : (l : List (Option ℕ)) → length (l ++ column_for mark (length classes) ∷ []) ≡ length l + 1
      more [] = refl
      more (x ∷ l) = let rest = more l in omega (arith, rest)

  pub few_more : (classes' : List ℕ) → classes' ≡ classes ++ class_for mark n → length classes ≤ n → length classes' ≤ n + 1
  few_more classes' q few = let e = ap length q in omega (arith, e, few, at_most mark classes)
    where
      at_most : (b : Bool) (l : List ℕ) → length (l ++ class_for b n) ≤ length l + 1
      at_most true [] = omega arith
      at_most false [] = omega arith
      at_most b (x ∷ l) = let rest = at_most b l in omega (arith, rest)
