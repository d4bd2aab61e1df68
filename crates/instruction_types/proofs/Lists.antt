-- Lists with their last first, and lists whose elements are changed one after the other.
use Rattle.std.proofs.Common.{◌≡◌, ℕ, zero, suc, ◌+◌, ◌-◌, ◌<◌, ◌≤◌, List, [], ◌∷◌, length, map, get_or, set, refl, sym, ap, ◌∙◌, subst, arith}
use Rattle.std.proofs.lemmas.List.{length-map, map-set}
use Rattle.std.proofs.Math.ListN.{get_or-map}

-- ---- the first so many elements are changed

abbrev pub changed : {A : Type 0} → (A → A) → ℕ → List A → List A
changed f zero xs = xs
changed f (suc n) [] = []
changed f (suc n) (x ∷ xs) = f x ∷ changed f n xs

change_more : {A : Type 0} (f : A → A) (i : ℕ) (xs : List A) (d : A) → i < length (changed f i xs)
    → set (changed f i xs) i (f (get_or (changed f i xs) i d)) ≡ changed f (suc i) xs
change_more f zero [] d l = absurd (omega arith)
change_more f zero (x ∷ xs) d l = refl
change_more f (suc i) [] d l = absurd (omega arith)
change_more f (suc i) (x ∷ xs) d l = ap (λ ys. f x ∷ ys) (change_more f i xs d (omega arith))

pub all_changed : {A : Type 0} (f : A → A) (i : ℕ) (xs : List A) → length xs ≤ i → changed f i xs ≡ map f xs
all_changed f zero [] l = refl
all_changed f zero (x ∷ xs) l = absurd (omega arith)
all_changed f (suc i) [] l = refl
all_changed f (suc i) (x ∷ xs) l = ap (λ ys. f x ∷ ys) (all_changed f i xs (omega arith))

-- one more element of a list, by what the elements are seen as
pub one_changed : {X A : Type 0} (view : X → A) (f : A → A) (before now : List X) (i : ℕ) (d v : X) → i < length now
    → view v ≡ f (view (get_or now i d)) → map view now ≡ changed f i (map view before)
    → map view (set now i v) ≡ changed f (i + 1) (map view before)
one_changed view f before now i d v l e h =
    let n : suc i ≡ i + 1 = omega arith in
    let within : i < length (changed f i (map view before)) = subst (λ ys. i < length ys) h (omega (arith, length-map now view)) in
    map-set view now i v
    ∙ ap (λ y. set (map view now) i y) (e ∙ ap f (sym (get_or-map view now i d)))
    ∙ ap (λ ys. set ys i (f (get_or ys i (view d)))) h
    ∙ change_more f i (map view before) (view d) within
    ∙ ap (λ m. changed f m (map view before)) n
