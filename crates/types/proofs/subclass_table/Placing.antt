-- The bits of the columns of classes.
use Rattle.std.proofs.Common.{◌≡◌, ◌≢◌, ◌∙◌, ◌⊎◌, inl, inr, ⊎_elim, ℕ, ◌+◌, ◌*◌, ◌<◌, ◌≤◌, Bool, true, false, ◌||◌, ◌&&◌, List, length, refl, sym, ap, subst, arith, Option, Some, None}
use Rattle.std.specs.Prelude.{◌==◌, slice_get}
use Rattle.std.specs.Option.{option_and_then}
use Rattle.std.proofs.lemmas.Bool.{cases_lt}
use Rattle.std.proofs.lemmas.Bool.Decides.{eqb_tells}
use Rattle.std.proofs.lemmas.Option.{slice_get_within}
use Rattle.types.specs.subclass_table.Columns.{AreColumns, column_in}
use Rattle.types.specs.subclass_table.Rows.{has_bit, FitIn}
use Rattle.types.proofs.subclass_table.SetBits.{or_none}

pub fits : (marks : List Bool) (columns : List (Option ℕ)) (classes : List ℕ) (width : ℕ) → AreColumns marks columns classes
    → length classes ≤ width * 64 → FitIn columns width
fits marks columns classes width are few = record {
  within = λ class column at. let less = slice_get_within classes column class (are.of class column at) in omega (arith, less, few);
  apart = λ class other column at again. let both : Some class ≡ Some other = sym (are.of class column at) ∙ are.of other column again in cc;
}

pub not_same : (a b : ℕ) → a ≢ b → (a == b) ≡ false
not_same a b differs = by (eqb_tells a b)
  where
    by : (((a == b) ≡ true) × (a ≡ b)) ⊎ (((a == b) ≡ false) × (a ≢ b)) → (a == b) ≡ false
    by (inl p) = absurd (differs p.1)
    by (inr p) = p.0

module _ (columns : List (Option ℕ)) where
  pub column_within : (class column : ℕ) → column_in columns class ≡ Some column → class < length columns
  column_within class column e = by (slice_get columns class) refl e
    where
      by : (o : Option (Option ℕ)) → slice_get columns class ≡ o → option_and_then (λ (c : Option ℕ). c) o ≡ Some column
          → class < length columns
      by None at h = absurd cc
      by (Some c) at h = slice_get_within columns class c at

  same_column : (place class column other : ℕ) → column_in columns place ≡ Some column → column_in columns class ≡ Some other
      → place ≡ class → column ≡ other
  same_column place class column other a b same = let both : Some column ≡ Some other = sym a ∙ ap (column_in columns) same ∙ b in cc

  pub no_column : (place class other : ℕ) → column_in columns place ≡ None → column_in columns class ≡ Some other → place ≢ class
  no_column place class other a b = λ same. let both : None ≡ Some other = sym a ∙ ap (column_in columns) same ∙ b in cc

  module _ (width : ℕ) (fit : FitIn columns width) where
    pub own_column : (place column class other : ℕ) → column_in columns place ≡ Some column → column_in columns class ≡ Some other
        → (column == other) ≡ (place == class)
    own_column place column class other a b = by (eqb_tells place class) (eqb_tells column other)
      where
        by : (((place == class) ≡ true) × (place ≡ class)) ⊎ (((place == class) ≡ false) × (place ≢ class))
            → (((column == other) ≡ true) × (column ≡ other)) ⊎ (((column == other) ≡ false) × (column ≢ other))
            → (column == other) ≡ (place == class)
        by (inl p) (inl q) = q.0 ∙ sym p.0
        by (inr p) (inr q) = q.0 ∙ sym p.0
        by (inl p) (inr q) = absurd (q.1 (same_column place class column other a b p.1))
        by (inr p) (inl q) = absurd (p.1 (fit.apart place class other (subst (λ k. column_in columns place ≡ Some k) q.1 a) b))

    -- ---- rows of which the bits of the first so many classes are set

    module _ (test : ℕ → Bool) (row : List ℕ) (place : ℕ) (done : (class column : ℕ) → class < place → column_in columns class ≡ Some column → has_bit row column ≡ test class)
        (rest : (class column : ℕ) → place ≤ class → column_in columns class ≡ Some column → has_bit row column ≡ false)
      where
        pub done_without : column_in columns place ≡ None → (class column : ℕ) → class < place + 1 → column_in columns class ≡ Some column
            → has_bit row column ≡ test class
        done_without none class column less at = ⊎_elim (λ old. done class column old at) (λ last. absurd (no_column place class column none at (omega (arith, less, last)))) (cases_lt class place)

        module _ (new : List ℕ) (own : ℕ) (is : column_in columns place ≡ Some own) (bits : (other : ℕ) → has_bit new other ≡ (has_bit row other || (own == other && test place))) where
          apart : (class column : ℕ) → place ≢ class → column_in columns class ≡ Some column → has_bit new column ≡ has_bit row column
          apart class column differs at = by (eqb_tells place class)
            where
              by : (((place == class) ≡ true) × (place ≡ class)) ⊎ (((place == class) ≡ false) × (place ≢ class))
                  → has_bit new column ≡ has_bit row column
              by (inl p) = absurd (differs p.1)
              by (inr p) = bits column ∙ ap (λ b. has_bit row column || (b && test place)) (own_column place own class column is at ∙ p.0) ∙ or_none (has_bit row column)

          here : (class column : ℕ) → place ≡ class → column_in columns class ≡ Some column → has_bit new column ≡ test class
          here class column same at = by (eqb_tells place class)
            where
              by : (((place == class) ≡ true) × (place ≡ class)) ⊎ (((place == class) ≡ false) × (place ≢ class))
                  → has_bit new column ≡ test class
              by (inr p) = absurd (p.1 same)
              by (inl p) =
                  bits column ∙ ap (λ b. has_bit row column || (b && test place)) (own_column place own class column is at ∙ p.0)
                  ∙ ap (λ b. b || test place) (rest class column (omega (arith, same)) at) ∙ ap test same

          pub done_more : (class column : ℕ) → class < place + 1 → column_in columns class ≡ Some column → has_bit new column ≡ test class
          done_more class column less at = ⊎_elim (λ old. apart class column (λ same. omega (arith, old, same)) at ∙ done class column old at) (λ last. here class column (omega (arith, less, last)) at) (cases_lt class place)

          pub rest_more : (class column : ℕ) → place + 1 ≤ class → column_in columns class ≡ Some column → has_bit new column ≡ false
          rest_more class column more at = apart class column (λ same. omega (arith, more, same)) at ∙ rest class column (omega (arith, more)) at
