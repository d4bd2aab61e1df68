-- What is equal in an order of lists is the same, where it is so of their elements.
use Rattle.std.proofs.Common.{◌≡◌, ℕ, List, [], ◌∷◌, refl, sym, ap, ◌∙◌}
use Rattle.std.specs.Cmp.Lexicographic.{slice_cmp}
use Rattle.std.specs.Cmp.{nat_cmp_is}
use Rattle.std.specs.Ordering.{nat_cmp, ordering_then}
use Rattle.std.specs.declared.cmp.Ordering.{Ordering}
use Rattle.std.specs.declared.cmp.Ordering.TheVariants.{Less, Equal, Greater}
use Rattle.std.proofs.lemmas.Cmp.{ranked}
use Rattle.model.specs.Texts.{Text}

pub both_equal : (one other : Ordering) → ordering_then one other ≡ Equal → (one ≡ Equal) × (other ≡ Equal)
both_equal Less other e = absurd cc
both_equal Equal other e = (refl, e)
both_equal Greater other e = absurd cc

-- where the first is equal only if the other is, the first decides
pub first_decides : (one other : Ordering) → (one ≡ Equal → other ≡ Equal) → ordering_then one other ≡ one
first_decides Less other tied = refl
first_decides Equal other tied = tied refl
first_decides Greater other tied = refl

module _ {X : Type 0} (cmp : X → X → Ordering) (same : (x y : X) → cmp x y ≡ Equal → x ≡ y) where
  pub same_lists : (xs ys : List X) → slice_cmp cmp xs ys ≡ Equal → xs ≡ ys
  same_lists [] [] e = refl
  same_lists [] (y ∷ ys) e = absurd cc
  same_lists (x ∷ xs) [] e = absurd cc
  same_lists (x ∷ xs) (y ∷ ys) e =
      let both = both_equal (cmp x y) (slice_cmp cmp xs ys) e in
      let first = same x y both.0 in
      let others = same_lists xs ys both.1 in
      ap (λ z. z ∷ xs) first ∙ ap (λ zs. y ∷ zs) others

pub same_number : (x y : ℕ) → nat_cmp x y ≡ Equal → x ≡ y
same_number x y e = ranked x y Equal (sym e)

pub units_equal : (text : Text) → slice_cmp nat_cmp text text ≡ Equal
units_equal [] = refl
units_equal (u ∷ text) =
    ap (λ (o : Ordering). ordering_then o (slice_cmp nat_cmp text text)) (sym (nat_cmp_is u u Equal refl)) ∙ units_equal text
