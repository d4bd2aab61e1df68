-- Lists, place by place, and turned.
use Rattle.std.proofs.Common.{◌≡◌, ℕ, suc, ◌+◌, ◌<◌, List, [], ◌∷◌, ◌++◌, length, map, drop, get_or, reverse, Option, Some, None, Bool, true, false, ◌&&◌, refl, sym, ap, ◌∙◌, subst, arith, inl, inr, drop-cons}
use Rattle.std.specs.Prelude.{option_map}
use Rattle.std.proofs.lemmas.Bool.{cases_eq}
use Rattle.std.proofs.lemmas.List.{length-map, length-reverse}
use Rattle.std.proofs.lemmas.Grind.{reverse_onto}
use mathlib.Core.Bool.{and-false, and-true, and_assoc}
use Rattle.model.specs.TypeOrder.{pairwise}
use Rattle.model.specs.TypeJoin.{join_pairwise, in_front}

-- what is at odds with another length is at odds with it turned
unlike_turned : {A B : Type 0} (xs : List A) (ys : List B) → (length xs ≡ length ys → ⊥) → length (reverse xs) ≡ length (reverse ys) → ⊥
unlike_turned xs ys ne e = ne (sym (length-reverse xs) ∙ e ∙ length-reverse ys)

pub unlike_mapped : {A B : Type 0} (f : A → B) (xs ys : List A) → (length xs ≡ length ys → ⊥) → length (map f xs) ≡ length (map f ys) → ⊥
unlike_mapped f xs ys ne e = ne (sym (length-map xs f) ∙ e ∙ length-map ys f)

-- ---- tests

and_apart : (a b : Bool) → (a && b) ≡ (b && a)
and_apart true true = refl
and_apart true false = refl
and_apart false true = refl
and_apart false false = refl

module _ {A : Type 0} (R : A → A → Bool) where
  pub pairwise_unlike : (xs ys : List A) → (length xs ≡ length ys → ⊥) → pairwise R xs ys ≡ false
  pairwise_unlike [] [] ne = absurd (ne refl)
  pairwise_unlike [] (y ∷ ys) ne = refl
  pairwise_unlike (x ∷ xs) [] ne = refl
  pairwise_unlike (x ∷ xs) (y ∷ ys) ne = ap (λ b. R x y && b) (pairwise_unlike xs ys (λ e. ne (ap suc e))) ∙ and-false (R x y)

  pairwise_last : (xs ys : List A) (x y : A) → length xs ≡ length ys
      → pairwise R (xs ++ x ∷ []) (ys ++ y ∷ []) ≡ (pairwise R xs ys && R x y)
  pairwise_last [] [] x y e = and-true (R x y)
  pairwise_last [] (b ∷ ys) x y e = absurd (omega (arith, e))
  pairwise_last (a ∷ xs) [] x y e = absurd (omega (arith, e))
  pairwise_last (a ∷ xs) (b ∷ ys) x y e = ap (λ c. R a b && c) (pairwise_last xs ys x y (omega (arith, e))) ∙ sym (and_assoc (R a b) _ _)

  pairwise_turned : (xs ys : List A) → length xs ≡ length ys → pairwise R (reverse xs) (reverse ys) ≡ pairwise R xs ys
  pairwise_turned [] [] e = refl
  pairwise_turned [] (y ∷ ys) e = absurd (omega (arith, e))
  pairwise_turned (x ∷ xs) [] e = absurd (omega (arith, e))
  pairwise_turned (x ∷ xs) (y ∷ ys) e =
      let k : length xs ≡ length ys = omega (arith, e) in
      ap (λ l. pairwise R l (reverse (y ∷ ys))) (reverse_onto xs x []) ∙ ap (λ l. pairwise R (reverse xs ++ x ∷ []) l) (reverse_onto ys y [])
      ∙ pairwise_last (reverse xs) (reverse ys) x y (length-reverse xs ∙ k ∙ sym (length-reverse ys))
      ∙ ap (λ b. b && R x y) (pairwise_turned xs ys k) ∙ and_apart (pairwise R xs ys) (R x y)

  pub pairwise_reverse : (xs ys : List A) → pairwise R (reverse xs) (reverse ys) ≡ pairwise R xs ys
  pairwise_reverse xs ys =
      elim (cases_eq (length xs) (length ys)) [
        | inl e ↦ pairwise_turned xs ys e
        | inr ne ↦ pairwise_unlike (reverse xs) (reverse ys) (unlike_turned xs ys ne) ∙ sym (pairwise_unlike xs ys ne)
      ]

  -- one place further
  pub pairwise_next : {T : Type 0} (f : T → A) (xs ys : List T) (d e : T) (i : ℕ) (r z : Bool) → length xs ≡ length ys → i < length xs
      → r ≡ R (f (get_or xs i d)) (f (get_or ys i e)) → r ≡ true
      → pairwise R (map f (drop i xs)) (map f (drop i ys)) ≡ z → pairwise R (map f (drop (i + 1) xs)) (map f (drop (i + 1) ys)) ≡ z
  pairwise_next f xs ys d e i r z same l q t h =
      let k : i < length ys = omega (arith, same, l) in
      let n : suc i ≡ i + 1 = omega arith in
      let first = ap (λ v. pairwise R (map f v) (map f (drop i ys))) (drop-cons xs i d l) in
      let both = ap (λ v. pairwise R (map f (get_or xs i d ∷ drop (suc i) xs)) (map f v)) (drop-cons ys i e k) in
      let holds = ap (λ b. b && pairwise R (map f (drop (suc i) xs)) (map f (drop (suc i) ys))) (sym q ∙ t) in
      subst (λ m. pairwise R (map f (drop m xs)) (map f (drop m ys)) ≡ z) n (sym holds ∙ sym both ∙ sym first ∙ h)

-- ---- joins

abbrev behind : {A : Type 0} → Option (List A) → Option A → Option (List A)
behind None x = None
behind (Some xs) None = None
behind (Some xs) (Some x) = Some (xs ++ x ∷ [])

front_none : {A : Type 0} (o : Option A) → in_front o None ≡ None
front_none None = refl
front_none (Some x) = refl

front_behind : {A : Type 0} (o : Option A) (p : Option (List A)) (q : Option A) → in_front o (behind p q) ≡ behind (in_front o p) q
front_behind None p q = refl
front_behind (Some x) None q = refl
front_behind (Some x) (Some xs) None = refl
front_behind (Some x) (Some xs) (Some y) = refl

behind_nothing : {A : Type 0} (o : Option A) → in_front o (Some []) ≡ behind (Some []) o
behind_nothing None = refl
behind_nothing (Some x) = refl

turned_front : {A : Type 0} (p : Option (List A)) (o : Option A) → behind (option_map reverse p) o ≡ option_map reverse (in_front o p)
turned_front None None = refl
turned_front None (Some x) = refl
turned_front (Some xs) None = refl
turned_front (Some xs) (Some x) = sym (ap (λ l. Some l) (reverse_onto xs x []))

module _ {A : Type 0} (J : A → A → Option A) where
  pub join_unlike : (xs ys : List A) → (length xs ≡ length ys → ⊥) → join_pairwise J xs ys ≡ None
  join_unlike [] [] ne = absurd (ne refl)
  join_unlike [] (y ∷ ys) ne = refl
  join_unlike (x ∷ xs) [] ne = refl
  join_unlike (x ∷ xs) (y ∷ ys) ne = ap (in_front (J x y)) (join_unlike xs ys (λ e. ne (ap suc e))) ∙ front_none (J x y)

  join_last : (xs ys : List A) (x y : A) → length xs ≡ length ys
      → join_pairwise J (xs ++ x ∷ []) (ys ++ y ∷ []) ≡ behind (join_pairwise J xs ys) (J x y)
  join_last [] [] x y e = behind_nothing (J x y)
  join_last [] (b ∷ ys) x y e = absurd (omega (arith, e))
  join_last (a ∷ xs) [] x y e = absurd (omega (arith, e))
  join_last (a ∷ xs) (b ∷ ys) x y e = ap (in_front (J a b)) (join_last xs ys x y (omega (arith, e))) ∙ front_behind (J a b) (join_pairwise J xs ys) (J x y)

  join_turned : (xs ys : List A) → length xs ≡ length ys
      → join_pairwise J (reverse xs) (reverse ys) ≡ option_map reverse (join_pairwise J xs ys)
  join_turned [] [] e = refl
  join_turned [] (y ∷ ys) e = absurd (omega (arith, e))
  join_turned (x ∷ xs) [] e = absurd (omega (arith, e))
  join_turned (x ∷ xs) (y ∷ ys) e =
      let k : length xs ≡ length ys = omega (arith, e) in
      ap (λ l. join_pairwise J l (reverse (y ∷ ys))) (reverse_onto xs x []) ∙ ap (λ l. join_pairwise J (reverse xs ++ x ∷ []) l) (reverse_onto ys y [])
      ∙ join_last (reverse xs) (reverse ys) x y (length-reverse xs ∙ k ∙ sym (length-reverse ys))
      ∙ ap (λ o. behind o (J x y)) (join_turned xs ys k) ∙ turned_front (join_pairwise J xs ys) (J x y)

  pub join_reverse : (xs ys : List A) → join_pairwise J (reverse xs) (reverse ys) ≡ option_map reverse (join_pairwise J xs ys)
  join_reverse xs ys =
      elim (cases_eq (length xs) (length ys)) [
        | inl e ↦ join_turned xs ys e
        | inr ne ↦ join_unlike (reverse xs) (reverse ys) (unlike_turned xs ys ne) ∙ sym (ap (λ o. option_map reverse o) (join_unlike xs ys ne))
      ]
