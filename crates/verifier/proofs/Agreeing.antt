-- Lists that agree but at some places.
use Rattle.std.proofs.Common.{◌≡◌, ℕ, zero, suc, List, [], ◌∷◌, length, map, Bool, true, ◌||◌, ◌==◌, Some, refl, sym, ap, ◌∙◌, subst, arith, ⊎_elim}
use Rattle.std.specs.Prelude.{slice_get, slice_set, slice_index_or, unwrap_or, option_map}
use Rattle.std.specs.List.{list_all}
use Rattle.std.proofs.lemmas.Bool.{false≢true, eqb-true, eq-eqb, or_cases, or_right, and_parts, and_from}
use Rattle.std.proofs.lemmas.List.{length-set, length-map}
use Rattle.std.proofs.lemmas.Option.{unwrap_or-slice_get, slice_get-map}
use Rattle.run_laws.proofs.laws.Lists.{Pairwise}
use Rattle.verifier.specs.Agreeing.{is_among, AgreeBut}

module _ {A : Type 0} where
  -- ---- items

  set_alike : (xs ys : List A) (i k : ℕ) (v : A) → length xs ≡ length ys → slice_get xs k ≡ slice_get ys k
      → slice_get (slice_set xs i v) k ≡ slice_get (slice_set ys i v) k
  set_alike [] [] i k v l e = refl
  set_alike [] (y ∷ ys) i k v l e = absurd cc
  set_alike (x ∷ xs) [] i k v l e = absurd cc
  set_alike (x ∷ xs) (y ∷ ys) zero zero v l e = refl
  set_alike (x ∷ xs) (y ∷ ys) zero (suc k) v l e = e
  set_alike (x ∷ xs) (y ∷ ys) (suc i) zero v l e = e
  set_alike (x ∷ xs) (y ∷ ys) (suc i) (suc k) v l e =
      let m : length xs ≡ length ys = omega (arith, l) in
      set_alike xs ys i k v m e

  pub index_alike : (xs ys : List A) (k : ℕ) (d : A) → slice_get xs k ≡ slice_get ys k → slice_index_or xs k d ≡ slice_index_or ys k d
  index_alike xs ys k d e = sym (unwrap_or-slice_get xs k d) ∙ (ap (λ o. unwrap_or o d) e ∙ unwrap_or-slice_get ys k d)

  -- ---- agreement

  pub but_self : (ks : List ℕ) (xs : List A) → AgreeBut ks xs xs
  but_self ks xs = record { long = refl; same = λ k n. refl }

  pub but_set : (ks : List ℕ) (xs ys : List A) (i : ℕ) (v : A) → AgreeBut ks xs ys → AgreeBut ks (slice_set xs i v) (slice_set ys i v)
  but_set ks xs ys i v a =
      record {
        long = length-set xs i v ∙ (a.long ∙ sym (length-set ys i v));
        same = λ k n. set_alike xs ys i k v a.long (a.same k n);
      }

  pub but_map : {B : Type 0} (f : A → B) (ks : List ℕ) (xs ys : List A) → AgreeBut ks xs ys → AgreeBut ks (map f xs) (map f ys)
  but_map f ks xs ys a =
      record {
        long = length-map xs f ∙ (a.long ∙ sym (length-map ys f));
        same = λ k n. slice_get-map f xs k ∙ (ap (option_map f) (a.same k n) ∙ sym (slice_get-map f ys k));
      }

  -- ---- an item of a list that is mapped

  pub map_index : {B : Type 0} (f : A → B) (xs : List A) (k : ℕ) (d : A) (y : B) → slice_get (map f xs) k ≡ Some y → f (slice_index_or xs k d) ≡ y
  map_index f [] k d y e = absurd cc
  map_index f (x ∷ xs) zero d y e = cc
  map_index f (x ∷ xs) (suc k) d y e = map_index f xs k d y e

  pub index_map : {B : Type 0} (f : A → B) (xs : List A) (k : ℕ) (d : A) → slice_index_or (map f xs) k (f d) ≡ f (slice_index_or xs k d)
  index_map f [] k d = refl
  index_map f (x ∷ xs) zero d = refl
  index_map f (x ∷ xs) (suc k) d = index_map f xs k d

  -- the item of which it is
  pub item_of : {B : Type 0} (f : A → B) (xs : List A) (k : ℕ) (y : B) → slice_get (map f xs) k ≡ Some y
      → (x : A) × ((slice_get xs k ≡ Some x) × (f x ≡ y))
  item_of f [] k y e = absurd cc
  item_of f (x ∷ xs) zero y e =
      let same : f x ≡ y = cc in
      (x, (refl, same))
  item_of f (x ∷ xs) (suc k) y e = item_of f xs k y e

-- ---- pairs

module _ {A B : Type 0} (R : A → B → Bool) where
  pub pair_at : (xs : List A) (ys : List B) → Pairwise R xs ys → (k : ℕ) (x : A) (y : B) → slice_get xs k ≡ Some x → slice_get ys k ≡ Some y
      → R x y ≡ true
  pair_at [] ys p k x y e f = absurd cc
  pair_at (a ∷ xs) [] p k x y e f = absurd p
  pair_at (a ∷ xs) (b ∷ ys) p zero x y e f =
      let left : a ≡ x = cc in
      let right : b ≡ y = cc in
      subst (λ z. R z y ≡ true) left (subst (λ z. R a z ≡ true) right p.0)
  pair_at (a ∷ xs) (b ∷ ys) p (suc k) x y e f = pair_at xs ys p.1 k x y e f

  pub pairs_from : (xs : List A) (ys : List B) → length xs ≡ length ys
      → ((k : ℕ) (x : A) (y : B) → slice_get xs k ≡ Some x → slice_get ys k ≡ Some y → R x y ≡ true) → Pairwise R xs ys
  pairs_from [] [] l h = tt
  pairs_from [] (y ∷ ys) l h = absurd cc
  pairs_from (x ∷ xs) [] l h = absurd cc
  pairs_from (x ∷ xs) (y ∷ ys) l h =
      let m : length xs ≡ length ys = omega (arith, l) in
      (h zero x y refl refl, pairs_from xs ys m (λ k. h (suc k)))

-- ---- tests of places

pub all_at : (f : ℕ → Bool) (ks : List ℕ) (k : ℕ) → list_all f ks ≡ true → is_among ks k ≡ true → f k ≡ true
all_at f [] k e m = absurd (false≢true m)
all_at f (i ∷ ks) k e m =
    let parts = and_parts (f i) (list_all f ks) e in
    ⊎_elim (λ q. subst (λ j. f j ≡ true) (eqb-true i k q) parts.0) (λ q. all_at f ks k parts.1 q) (or_cases (i == k) (is_among ks k) m)

pub all_among : (f : ℕ → Bool) (ks : List ℕ) → ((k : ℕ) → is_among ks k ≡ true → f k ≡ true) → list_all f ks ≡ true
all_among f [] h = refl
all_among f (i ∷ ks) h =
    and_from (f i) (list_all f ks) (h i (ap (λ b. b || is_among ks i) (eq-eqb i i refl))) (all_among f ks (λ k m. h k (or_right (i == k) (is_among ks k) m)))
