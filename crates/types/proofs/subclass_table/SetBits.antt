-- Bits that are set in rows of words.
use Rattle.std.proofs.Common.{◌≡◌, ◌≢◌, ◌∙◌, ◌⊎◌, inl, inr, ⊎_elim, ℕ, zero, suc, ◌*◌, ◌/◌, ◌%◌, ◌^◌, ◌<◌, ◌≤◌, Bool, true, false, ◌||◌, max, List, length, get_or, refl, sym, ap, arith, w64, bit_or}
use Rattle.std.specs.Prelude.{◌==◌}
use Rattle.std.specs.Int.{bit_at}
use Rattle.std.proofs.lemmas.Bool.{cases_lt}
use Rattle.std.proofs.lemmas.Bool.Decides.{eqb_tells}
use Rattle.std.proofs.lemmas.List.{get_or_past}
use Rattle.std.proofs.lemmas.Nat.Bits.{bit_at-lt, bit_at-zero, bit_at_or, bit_at_set_same, bit_at_set_other}
use Rattle.types.specs.subclass_table.Rows.{has_bit}

pub or_none : (b : Bool) → (b || false) ≡ b
or_none true = refl
or_none false = refl

or_some : (b : Bool) → (b || true) ≡ true
or_some true = refl
or_some false = refl

-- ---- one bit

module _ (row new : List ℕ) (column : ℕ)
    (set : get_or new (column / 64) 0 ≡ bit_or (get_or row (column / 64) 0) (1 * 2 ^ (column % 64) % 2 ^ 64))
    (others : (place : ℕ) → place ≢ column / 64 → get_or new place 0 ≡ get_or row place 0)
  where
    here : has_bit new column ≡ true
    here = ap (λ n. n == 1) (ap (λ w. bit_at w (column % 64)) set ∙ bit_at_set_same w64 (get_or row (column / 64) 0) (column % 64) (omega arith))

    in_word : (other : ℕ) → other / 64 ≡ column / 64 → other % 64 ≢ column % 64 → has_bit new other ≡ has_bit row other
    in_word other word differs =
        ap (λ n. n == 1)
        (ap (λ k. bit_at (get_or new k 0) (other % 64)) word ∙ ap (λ w. bit_at w (other % 64)) set
        ∙ bit_at_set_other w64 (get_or row (column / 64) 0) (column % 64) (omega arith) (other % 64) differs
        ∙ ap (λ k. bit_at (get_or row k 0) (other % 64)) (sym word))

    elsewhere : (other : ℕ) → column ≢ other → has_bit new other ≡ has_bit row other
    elsewhere other differs = by (eqb_tells (other / 64) (column / 64))
      where
        by : (((other / 64 == column / 64) ≡ true) × (other / 64 ≡ column / 64))
            ⊎ (((other / 64 == column / 64) ≡ false) × (other / 64 ≢ column / 64)) → has_bit new other ≡ has_bit row other
        by (inl same) = in_word other same.1 (λ bit. differs (omega (arith, same.1, bit)))
        by (inr apart) = ap (λ w. bit_at w (other % 64) == 1) (others (other / 64) apart.1)

    pub bit_set : (other : ℕ) → has_bit new other ≡ (has_bit row other || column == other)
    bit_set other = by (eqb_tells column other)
      where
        by : (((column == other) ≡ true) × (column ≡ other)) ⊎ (((column == other) ≡ false) × (column ≢ other))
            → has_bit new other ≡ (has_bit row other || column == other)
        by (inl same) = ap (has_bit new) (sym same.1) ∙ here ∙ sym (ap (λ b. has_bit row other || b) same.0 ∙ or_some (has_bit row other))
        by (inr apart) = elsewhere other apart.1 ∙ sym (ap (λ b. has_bit row other || b) apart.0 ∙ or_none (has_bit row other))

-- ---- the bits of another row

either : (a b : ℕ) → a < 2 → b < 2 → (max a b == 1) ≡ ((a == 1) || (b == 1))
either zero zero p q = refl
either zero (suc zero) p q = refl
either (suc zero) zero p q = refl
either (suc zero) (suc zero) p q = refl
either (suc (suc a)) b p q = absurd (omega (arith, p))
either a (suc (suc b)) p q = absurd (omega (arith, q))

module _ (row other new : List ℕ) (done : (k : ℕ) → k < length row → get_or new k 0 ≡ bit_or (get_or row k 0) (get_or other k 0))
    (same : length new ≡ length row) (fits : length other ≤ length row) where
  none : (xs : List ℕ) (column : ℕ) → length xs ≤ column / 64 → has_bit xs column ≡ false
  none xs column past = ap (λ n. n == 1) (ap (λ w. bit_at w (column % 64)) (get_or_past xs (column / 64) 0 past) ∙ bit_at-zero (column % 64))

  pub bits_added : (column : ℕ) → has_bit new column ≡ (has_bit row column || has_bit other column)
  bits_added column = ⊎_elim
      (λ less. ap (λ n. n == 1) (ap (λ w. bit_at w (column % 64)) (done (column / 64) less) ∙ bit_at_or (get_or row (column / 64) 0) (get_or other (column / 64) 0) (column % 64))
      ∙ either (bit_at (get_or row (column / 64) 0) (column % 64)) (bit_at (get_or other (column / 64) 0) (column % 64)) (bit_at-lt _ _) (bit_at-lt _ _))
      (λ past. none new column (omega (arith, same, past)) ∙ sym (ap (λ b. b || has_bit other column) (none row column past) ∙ none other column (omega (arith, fits, past))))
      (cases_lt (column / 64) (length row))
