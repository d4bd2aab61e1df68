-- Lists with their last first, and lists that grow from their end.
use Rattle.std.proofs.Common.{◌≡◌, ℕ, zero, suc, ◌+◌, ◌-◌, ◌<◌, ◌≤◌, List, [], ◌∷◌, ◌++◌, length, map, take, drop, reverse, get_or, refl, sym, ap, ◌∙◌, arith, inl, inr, add-one, append_assoc}
use Rattle.std.proofs.lemmas.Bool.{cases_lt}
use Rattle.std.proofs.lemmas.List.{drop_at, take-append-drop, length-drop, length-map, length-reverse, reverse-append, map-append, append-nil}
use Rattle.std.proofs.Math.ListN.{drop_of_length-le, get_or-map}
use Rattle.std.proofs.Math.Seq.{drop-cons}
use Rattle.std.specs.List.{take-map}
use Rattle.model.specs.Rows.{counting}

-- ---- the first of a list are the last of it turned

drop_some : {A : Type 0} (n m : ℕ) (xs : List A) → length (drop m xs) ≡ n → drop n (reverse xs) ≡ reverse (take m xs)
drop_some n m xs e =
    ap (λ ys. drop n (reverse ys)) (sym (take-append-drop m xs)) ∙ ap (drop n) (reverse-append (take m xs) (drop m xs)) ∙ drop_at (reverse (drop m xs)) (reverse (take m xs)) n (length-reverse (drop m xs) ∙ e)

pub drop_reverse : {A : Type 0} (n : ℕ) (xs : List A) → drop n (reverse xs) ≡ reverse (take (length xs - n) xs)
drop_reverse n xs =
    elim (cases_lt n (length xs)) [
      | inl lt ↦ drop_some n (length xs - n) xs (omega (arith, length-drop (length xs - n) xs))
      | inr le ↦
          (let none : length xs - n ≡ 0 = omega arith in
          drop_of_length-le (reverse xs) (omega (arith, length-reverse xs)) ∙ sym (ap (λ k. reverse (take k xs)) none))
    ]

module _ {A B : Type 0} (f : A → B) where
  pub map-reverse : (xs : List A) → map f (reverse xs) ≡ reverse (map f xs)
  map-reverse [] = refl
  map-reverse (x ∷ xs) =
      ap (map f) (reverse-append (x ∷ []) xs) ∙ map-append f (reverse xs) (x ∷ []) ∙ ap (λ ys. ys ++ f x ∷ []) (map-reverse xs) ∙ sym (reverse-append (f x ∷ []) (map f xs))

  -- what is left of a list without its last, seen from the end
  pub under_reversed : (n : ℕ) (xs : List A) → reverse (map f (take (length xs - n) xs)) ≡ drop n (reverse (map f xs))
  under_reversed n xs =
      ap reverse (sym (take-map f (length xs - n) xs)) ∙ ap (λ k. reverse (take (k - n) (map f xs))) (sym (length-map xs f)) ∙ sym (drop_reverse n (map f xs))

  -- what stands at a place of the last of them, seen from the end
  pub place_reversed : (n k : ℕ) (xs : List A) (d : A) → f (get_or (take n (reverse xs)) k d) ≡ get_or (take n (reverse (map f xs))) k (f d)
  place_reversed n k xs d = sym (get_or-map f (take n (reverse xs)) k d) ∙ ap (λ l. get_or l k (f d)) (sym (take-map f n (reverse xs)) ∙ ap (take n) (map-reverse xs))

  -- the last so many and one more
  pub one_more : (xs : List A) (i : ℕ) (d : A) → i < length xs
      → map f (drop (length xs - (i + 1)) xs) ≡ f (get_or xs (length xs - 1 - i) d) ∷ map f (drop (length xs - i) xs)
  one_more xs i d l =
      let at : length xs - (i + 1) ≡ length xs - 1 - i = omega arith in
      let next : suc (length xs - 1 - i) ≡ length xs - i = omega arith in
      let less : length xs - 1 - i < length xs = omega arith in
      ap (λ k. map f (drop k xs)) at ∙ ap (map f) (drop-cons xs (length xs - 1 - i) d less) ∙ ap (λ k. f (get_or xs (length xs - 1 - i) d) ∷ map f (drop k xs)) next

-- one more at the end is one more at the beginning of the list turned
pub onto_reversed : {A : Type 0} (xs ys zs : List A) (y : A) → reverse xs ≡ ys ++ zs → reverse (xs ++ y ∷ []) ≡ (y ∷ ys) ++ zs
onto_reversed xs ys zs y e = reverse-append xs (y ∷ []) ∙ ap (λ l. y ∷ l) e

-- ---- a list that is laid down from its end, on top of others that stand with their last first

module _ {A B W : Type 0} (f : A → B) (g : W → B) where
  pub laid_none : (ws : List W) (ys : List A) (zs : List B) → reverse (map f ys) ≡ zs
      → reverse (map f ys) ≡ map g (drop (length ws - 0) ws) ++ zs
  laid_none ws ys zs e =
      let all : length ws ≤ length ws - 0 = omega arith in
      e ∙ ap (λ l. map g l ++ zs) (sym (drop_of_length-le ws all))

  pub laid_next : (ws : List W) (i : ℕ) (d : W) (ys ys' : List A) (y : A) (zs : List B) → i < length ws → ys' ≡ ys ++ y ∷ []
      → f y ≡ g (get_or ws (length ws - 1 - i) d)
      → reverse (map f ys) ≡ map g (drop (length ws - i) ws) ++ zs → reverse (map f ys') ≡ map g (drop (length ws - (i + 1)) ws) ++ zs
  laid_next ws i d ys ys' y zs l grown is before =
      ap (λ l. reverse (map f l)) grown ∙ ap reverse (map-append f ys (y ∷ [])) ∙ reverse-append (map f ys) (f y ∷ []) ∙ ap (λ l. f y ∷ l) before
      ∙ ap (λ b. b ∷ (map g (drop (length ws - i) ws) ++ zs)) is ∙ ap (λ l. l ++ zs) (sym (one_more g ws i d l))

  pub laid_all : (ws : List W) (i : ℕ) (ys : List A) (zs : List B) → length ws ≤ i
      → reverse (map f ys) ≡ map g (drop (length ws - i) ws) ++ zs → reverse (map f ys) ≡ map g ws ++ zs
  laid_all ws i ys zs l e =
      let none : length ws - i ≡ 0 = omega arith in
      e ∙ ap (λ k. map g (drop k ws) ++ zs) none

-- ---- numbers from one on

counted : {A : Type 0} (f : ℕ → A) (k n : ℕ) → k < n → map f (counting k (n - k)) ≡ f k ∷ map f (counting (k + 1) (n - (k + 1)))
counted f k n l = by (n - k) (n - (k + 1)) (omega arith)
  where
    by : (m r : ℕ) → m ≡ suc r → map f (counting k m) ≡ f k ∷ map f (counting (k + 1) r)
    by m r e = rw (e, add-one) refl

pub counted_one : {A : Type 0} (f : ℕ → A) (xs ys : List A) (k n : ℕ) (y : A) (all : List A) → k < n → ys ≡ xs ++ y ∷ [] → y ≡ f k
    → xs ++ map f (counting k (n - k)) ≡ all → ys ++ map f (counting (k + 1) (n - (k + 1))) ≡ all
counted_one f xs ys k n y all l grown is before =
    ap (λ l. l ++ map f (counting (k + 1) (n - (k + 1)))) grown ∙ append_assoc xs (y ∷ []) _ ∙ ap (λ z. xs ++ (z ∷ map f (counting (k + 1) (n - (k + 1))))) is
    ∙ ap (λ l. xs ++ l) (sym (counted f k n l)) ∙ before

pub counted_none : {A : Type 0} (f : ℕ → A) (xs ys : List A) (y : A) (n : ℕ) → xs ≡ [] → ys ≡ xs ++ y ∷ []
    → ys ++ map f (counting 0 (n - 0)) ≡ y ∷ map f (counting 0 n)
counted_none f xs ys y n none grown =
    let all : n - 0 ≡ n = omega arith in
    ap (λ l. l ++ map f (counting 0 (n - 0))) (grown ∙ ap (λ l. l ++ y ∷ []) none) ∙ ap (λ m. y ∷ map f (counting 0 m)) all

pub counted_all : {A : Type 0} (f : ℕ → A) (xs : List A) (k n : ℕ) (all : List A) → n ≤ k → xs ++ map f (counting k (n - k)) ≡ all
    → xs ≡ all
counted_all f xs k n all l e =
    let none : n - k ≡ 0 = omega arith in
    sym (append-nil xs) ∙ ap (λ m. xs ++ map f (counting k m)) (sym none) ∙ e

-- a list behind its first
pub behind_first : {A : Type 0} (x : A) (xs : List A) (k : ℕ) (d : A) → (k ≡ 0 → ⊥) → get_or (x ∷ xs) k d ≡ get_or xs (k - 1) d
behind_first x xs zero d ne = absurd (ne refl)
behind_first x xs (suc k) d ne =
    let same : k ≡ suc k - 1 = omega arith in
    ap (λ j. get_or xs j d) same
