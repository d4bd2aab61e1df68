-- Points by the number of a method are those of the method.
use Rattle.std.proofs.Common.{◌≡◌, ◌<◌, ℕ, zero, suc, ◌+◌, List, [], ◌∷◌, ◌++◌, Bool, true, false, Option, Some, None, refl, sym, ap, subst, ◌∙◌, arith}
use Rattle.std.specs.Prelude.{◌==◌, ◌&&◌, ◌||◌, slice_get}
use Rattle.std.specs.List.{list_any}
use Rattle.std.proofs.lemmas.Bool.{eq-eqb, eqb-true}
use Rattle.std.proofs.lemmas.List.Folds.{list_any-append}
use Rattle.model.specs.Names.{Member}
use Rattle.model.specs.Classes.{Program}
use Rattle.linked_code.specs.Numbers.{IsMethodAt, methods_of}
use Rattle.place_texts.specs.Places.{PlaceOf}
use Rattle.code_places.specs.declared.points.Point.{Point}
use Rattle.code_places.specs.Points.{all_points, is_point, offsets_of, points_at, points_from}
use Rattle.place_runs.specs.Shown.{has_point}

same_number : (n : ℕ) → (n == n) ≡ true
same_number n = eq-eqb n n refl

differ : (a b : ℕ) → (a ≡ b → ⊥) → (a == b) ≡ false
differ a b h = by (a == b) refl
  where
    by : (t : Bool) → (a == b) ≡ t → (a == b) ≡ false
    by true e = absurd (h (eqb-true a b e))
    by false e = e

other_number : (a b : ℕ) → a < b → (b == a) ≡ false
other_number a b less = differ b a (λ same. omega (arith, less, same))

greater_number : (a b : ℕ) → a < b → (a == b) ≡ false
greater_number a b less = differ a b (λ same. omega (arith, less, same))

-- ---- the points of one method

own : (n offset : ℕ) (offsets : List ℕ) → has_point (points_at n offsets) n offset ≡ list_any (λ o. o == offset) offsets
own n offset [] = refl
own n offset (o ∷ offsets) =
    ap (λ b. (b && o == offset) || has_point (points_at n offsets) n offset) (same_number n) ∙ ap (λ b. (o == offset) || b) (own n offset offsets)

-- none is of another method
others : (n m offset : ℕ) (offsets : List ℕ) → (n == m) ≡ false → has_point (points_at n offsets) m offset ≡ false
others n m offset [] differ = refl
others n m offset (o ∷ offsets) differ =
    ap (λ b. (b && o == offset) || has_point (points_at n offsets) m offset) differ ∙ others n m offset offsets differ

-- ---- those of methods

module _ (trees : Program) (place : PlaceOf) (offset : ℕ) where
  later : (number first : ℕ) (methods : List Member) → number < first → has_point (points_from trees place first methods) number offset ≡ false
  later number first [] less = refl
  later number first (m ∷ methods) less =
      let next : number < suc first = omega (arith, less) in
      list_any-append (λ (p : Point). p.method == number && p.offset == offset) (points_at first (offsets_of trees place m)) (points_from trees place (suc first) methods)
      ∙ ap (λ b. b || has_point (points_from trees place (suc first) methods) number offset) (others first number offset (offsets_of trees place m) (other_number number first less))
      ∙ later number (suc first) methods next

  there : (first k : ℕ) (methods : List Member) (method : Member) → slice_get methods k ≡ Some method
      → has_point (points_from trees place first methods) (first + k) offset ≡ is_point trees place method offset
  there first k [] method at = absurd cc
  there first zero (m ∷ methods) method at =
      let same : m ≡ method = cc in
      let number : first + zero ≡ first = omega arith in
      let next : first < suc first = omega arith in
      ap (λ n. has_point (points_from trees place first (m ∷ methods)) n offset) number
      ∙ list_any-append (λ (p : Point). p.method == first && p.offset == offset) (points_at first (offsets_of trees place m)) (points_from trees place (suc first) methods)
      ∙ ap (λ b. b || has_point (points_from trees place (suc first) methods) first offset) (own first offset (offsets_of trees place m))
      ∙ ap (λ b. list_any (λ o. o == offset) (offsets_of trees place m) || b) (later first (suc first) methods next)
      ∙ or_false (is_point trees place m offset)
      ∙ ap (λ (n : Member). is_point trees place n offset) same
    where
      or_false : (b : Bool) → (b || false) ≡ b
      or_false true = refl
      or_false false = refl
  there first (suc k) (m ∷ methods) method at =
      let number : first + suc k ≡ suc first + k = omega arith in
      let less : first < suc first + k = omega arith in
      ap (λ n. has_point (points_from trees place first (m ∷ methods)) n offset) number
      ∙ list_any-append (λ (p : Point). p.method == suc first + k && p.offset == offset) (points_at first (offsets_of trees place m)) (points_from trees place (suc first) methods)
      ∙ ap (λ b. b || has_point (points_from trees place (suc first) methods) (suc first + k) offset)
      (others first (suc first + k) offset (offsets_of trees place m) (greater_number first (suc first + k) less))
      ∙ there (suc first) k methods method at

  pub pointed : (number : ℕ) (method : Member) → IsMethodAt trees number method
      → has_point (all_points trees place) number offset ≡ is_point trees place method offset
  pointed number method at =
      let count : 0 + number ≡ number = omega arith in
      ap (λ n. has_point (all_points trees place) n offset) (sym count) ∙ there 0 number (methods_of trees) method at
