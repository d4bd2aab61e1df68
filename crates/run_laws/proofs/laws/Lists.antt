-- Two lists side by side, and what holds of each element.
use Rattle.std.proofs.Common.{◌≡◌, ℕ, zero, suc, List, [], ◌∷◌, ◌++◌, map, length, take, drop, Bool, true, Some, refl, sym, ap, ◌∙◌, subst}
use Rattle.std.specs.Prelude.{slice_get, replicate, slice_index_or, slice_set}
use Rattle.std.specs.List.{AllByRecursion, list_all}
use Rattle.std.proofs.lemmas.Bool.{false≢true, and_parts, and_from}
use Rattle.model.specs.TypeOrder.{pairwise}

-- two lists as long as one another, with R at each place
abbrev pub Pairwise : {A B : Type 0} → (A → B → Bool) → List A → List B → Type 0
Pairwise R [] [] = Unit {0}
Pairwise R [] (y ∷ ys) = ⊥
Pairwise R (x ∷ xs) [] = ⊥
Pairwise R (x ∷ xs) (y ∷ ys) = (R x y ≡ true) × Pairwise R xs ys

-- the test of the definitions says so
pub pairs_of : {A B : Type 0} (R : A → B → Bool) (xs : List A) (ys : List B) → pairwise R xs ys ≡ true → Pairwise R xs ys
pairs_of R [] [] h = tt
pairs_of R [] (y ∷ ys) h = absurd (false≢true h)
pairs_of R (x ∷ xs) [] h = absurd (false≢true h)
pairs_of R (x ∷ xs) (y ∷ ys) h = let q = and_parts _ _ h in (q.0, pairs_of R xs ys q.1)

pub of_pairs : {A B : Type 0} (R : A → B → Bool) (xs : List A) (ys : List B) → Pairwise R xs ys → pairwise R xs ys ≡ true
of_pairs R [] [] h = refl
of_pairs R [] (y ∷ ys) h = absurd h
of_pairs R (x ∷ xs) [] h = absurd h
of_pairs R (x ∷ xs) (y ∷ ys) h = and_from _ _ h.0 (of_pairs R xs ys h.1)

module _ {A B : Type 0} (R : A → B → Bool) where
  pub pair_get : (xs : List A) (ys : List B) (a : A) (b : B) → Pairwise R xs ys → R a b ≡ true → (k : ℕ)
      → R (slice_index_or xs k a) (slice_index_or ys k b) ≡ true
  pair_get [] [] a b h d k = d
  pair_get [] (y ∷ ys) a b h d k = absurd h
  pair_get (x ∷ xs) [] a b h d k = absurd h
  pair_get (x ∷ xs) (y ∷ ys) a b h d zero = h.0
  pair_get (x ∷ xs) (y ∷ ys) a b h d (suc k) = pair_get xs ys a b h.1 d k

  pub pair_set : (xs : List A) (ys : List B) (a : A) (b : B) → Pairwise R xs ys → R a b ≡ true → (k : ℕ)
      → Pairwise R (slice_set xs k a) (slice_set ys k b)
  pair_set [] [] a b h d k = tt
  pair_set [] (y ∷ ys) a b h d k = absurd h
  pair_set (x ∷ xs) [] a b h d k = absurd h
  pair_set (x ∷ xs) (y ∷ ys) a b h d zero = (d, h.1)
  pair_set (x ∷ xs) (y ∷ ys) a b h d (suc k) = (h.0, pair_set xs ys a b h.1 d k)

  pub pair_append : (xs : List A) (ys : List B) (ls : List A) (bs : List B) → Pairwise R xs ys → Pairwise R ls bs
      → Pairwise R (xs ++ ls) (ys ++ bs)
  pair_append [] [] ls bs h g = g
  pair_append [] (y ∷ ys) ls bs h g = absurd h
  pair_append (x ∷ xs) [] ls bs h g = absurd h
  pair_append (x ∷ xs) (y ∷ ys) ls bs h g = (h.0, pair_append xs ys ls bs h.1 g)

  pub pair_take : (n : ℕ) (xs : List A) (ys : List B) → Pairwise R xs ys → Pairwise R (take n xs) (take n ys)
  pair_take zero xs ys h = tt
  pair_take (suc n) [] [] h = tt
  pair_take (suc n) [] (y ∷ ys) h = absurd h
  pair_take (suc n) (x ∷ xs) [] h = absurd h
  pair_take (suc n) (x ∷ xs) (y ∷ ys) h = (h.0, pair_take n xs ys h.1)

  pub pair_drop : (n : ℕ) (xs : List A) (ys : List B) → Pairwise R xs ys → Pairwise R (drop n xs) (drop n ys)
  pair_drop zero xs ys h = h
  pair_drop (suc n) [] [] h = tt
  pair_drop (suc n) [] (y ∷ ys) h = absurd h
  pair_drop (suc n) (x ∷ xs) [] h = absurd h
  pair_drop (suc n) (x ∷ xs) (y ∷ ys) h = pair_drop n xs ys h.1

  pub pair_replicate : (n : ℕ) (a : A) (b : B) → R a b ≡ true → Pairwise R (replicate n a) (replicate n b)
  pair_replicate zero a b h = tt
  pair_replicate (suc n) a b h = (h, pair_replicate n a b h)

  pub pair_length : (xs : List A) (ys : List B) → Pairwise R xs ys → length xs ≡ length ys
  pair_length [] [] h = refl
  pair_length [] (y ∷ ys) h = absurd h
  pair_length (x ∷ xs) [] h = absurd h
  pair_length (x ∷ xs) (y ∷ ys) h = ap suc (pair_length xs ys h.1)

  -- each is got from one thing
  pub pair_map : {C : Type 0} (f : C → A) (g : C → B) (cs : List C) → ((c : C) → R (f c) (g c) ≡ true) → Pairwise R (map f cs) (map g cs)
  pair_map f g [] h = tt
  pair_map f g (c ∷ cs) h = (h c, pair_map f g cs h)

pub pair_weaken : {A B : Type 0} (R S : A → B → Bool) (xs : List A) (ys : List B) → ((x : A) (y : B) → R x y ≡ true → S x y ≡ true)
    → Pairwise R xs ys → Pairwise S xs ys
pair_weaken R S [] [] w h = tt
pair_weaken R S [] (y ∷ ys) w h = absurd h
pair_weaken R S (x ∷ xs) [] w h = absurd h
pair_weaken R S (x ∷ xs) (y ∷ ys) w h = (w x y h.0, pair_weaken R S xs ys w h.1)

pub pair_through : {A B C : Type 0} (R : A → B → Bool) (S : A → C → Bool) (T : B → C → Bool) (xs : List A) (ys : List B) (zs : List C)
    → ((x : A) (y : B) (z : C) → R x y ≡ true → S x z ≡ true → T y z ≡ true) → Pairwise R xs ys → Pairwise S xs zs → Pairwise T ys zs
pair_through R S T [] [] [] w h g = tt
pair_through R S T [] [] (z ∷ zs) w h g = absurd g
pair_through R S T [] (y ∷ ys) zs w h g = absurd h
pair_through R S T (x ∷ xs) [] zs w h g = absurd h
pair_through R S T (x ∷ xs) (y ∷ ys) [] w h g = absurd g
pair_through R S T (x ∷ xs) (y ∷ ys) (z ∷ zs) w h g = (w x y z h.0 g.0, pair_through R S T xs ys zs w h.1 g.1)

module _ {A : Type 0} (P : A → Type 0) where
  pub every_at : (xs : List A) (k : ℕ) (x : A) → AllByRecursion P xs → slice_get xs k ≡ Some x → P x
  every_at [] k x h e = absurd cc
  every_at (y ∷ ys) zero x h e = let q : y ≡ x = cc in subst P q h.0
  every_at (y ∷ ys) (suc k) x h e = every_at ys k x h.1 e

  pub every_set : (xs : List A) (k : ℕ) (x : A) → AllByRecursion P xs → P x → AllByRecursion P (slice_set xs k x)
  every_set [] k x h p = tt
  every_set (y ∷ ys) zero x h p = (p, h.1)
  every_set (y ∷ ys) (suc k) x h p = (h.0, every_set ys k x h.1 p)

  pub every_append : (xs ys : List A) → AllByRecursion P xs → AllByRecursion P ys → AllByRecursion P (xs ++ ys)
  every_append [] ys h g = g
  every_append (x ∷ xs) ys h g = (h.0, every_append xs ys h.1 g)

  pub every_replicate : (n : ℕ) (x : A) → P x → AllByRecursion P (replicate n x)
  every_replicate zero x p = tt
  every_replicate (suc n) x p = (p, every_replicate n x p)

  pub every_map : {C : Type 0} (f : C → A) (cs : List C) → ((c : C) → P (f c)) → AllByRecursion P (map f cs)
  every_map f [] h = tt
  every_map f (c ∷ cs) h = (h c, every_map f cs h)

  -- one of x and the rest
  pub every_get : (x : A) (xs : List A) (k : ℕ) → AllByRecursion P (x ∷ xs) → P (slice_index_or xs k x)
  every_get x [] k h = h.0
  every_get x (y ∷ ys) zero h = h.1.0
  every_get x (y ∷ ys) (suc k) h = every_get x ys k (h.0, h.1.1)

pub every_weaken : {A : Type 0} (P Q : A → Type 0) (xs : List A) → ((x : A) → P x → Q x) → AllByRecursion P xs → AllByRecursion Q xs
every_weaken P Q [] w h = tt
every_weaken P Q (x ∷ xs) w h = (w x h.0, every_weaken P Q xs w h.1)

pub get_set_same : {A B : Type 0} (f : A → B) (xs : List A) (k : ℕ) (old new : A) → slice_get xs k ≡ Some old → f new ≡ f old
    → map f (slice_set xs k new) ≡ map f xs
get_set_same f [] k old new e q = refl
get_set_same f (x ∷ xs) zero old new e q =
    let same : x ≡ old = cc in
    ap (λ b. b ∷ map f xs) (q ∙ ap f (sym same))
get_set_same f (x ∷ xs) (suc k) old new e q = ap (λ bs. f x ∷ bs) (get_set_same f xs k old new e q)

pub get_front : {A : Type 0} (xs ys : List A) (k : ℕ) (x : A) → slice_get xs k ≡ Some x → slice_get (xs ++ ys) k ≡ Some x
get_front [] ys k x e = absurd cc
get_front (y ∷ xs) ys zero x e = e
get_front (y ∷ xs) ys (suc k) x e = get_front xs ys k x e

pub get_last : {A : Type 0} (xs : List A) (x : A) → slice_get (xs ++ x ∷ []) (length xs) ≡ Some x
get_last [] x = refl
get_last (y ∷ xs) x = get_last xs x

pub get_map : {A B : Type 0} (f : A → B) (xs : List A) (k : ℕ) (x : A) → slice_get xs k ≡ Some x → slice_get (map f xs) k ≡ Some (f x)
get_map f [] k x e = absurd cc
get_map f (y ∷ xs) zero x e = let q : y ≡ x = cc in ap (λ z. Some (f z)) q
get_map f (y ∷ xs) (suc k) x e = get_map f xs k x e

-- the left side changed, where what fits goes on fitting
pub pair_map_left : {A B : Type 0} (R : A → B → Bool) (g : A → A) → ((a : A) (b : B) → R a b ≡ true → R (g a) b ≡ true) → (xs : List A)
    (ys : List B) → Pairwise R xs ys → Pairwise R (map g xs) ys
pair_map_left R g w [] [] h = tt
pair_map_left R g w [] (y ∷ ys) h = absurd h
pair_map_left R g w (x ∷ xs) [] h = absurd h
pair_map_left R g w (x ∷ xs) (y ∷ ys) h = (w x y h.0, pair_map_left R g w xs ys h.1)

pub pair_map_two : {A B C : Type 0} (R : A → B → Bool) (S : C → B → Bool) (f : A → C) → ((a : A) (b : B) → R a b ≡ true → S (f a) b ≡ true)
    → (xs : List A) (ys : List B) → Pairwise R xs ys → Pairwise S (map f xs) ys
pair_map_two R S f w [] [] h = tt
pair_map_two R S f w [] (y ∷ ys) h = absurd h
pair_map_two R S f w (x ∷ xs) [] h = absurd h
pair_map_two R S f w (x ∷ xs) (y ∷ ys) h = (w x y h.0, pair_map_two R S f w xs ys h.1)

pub pair_unmap : {A B C : Type 0} (R : A → B → Bool) (S : C → B → Bool) (f : C → A) → ((c : C) (b : B) → R (f c) b ≡ true → S c b ≡ true)
    → (xs : List C) (ys : List B) → Pairwise R (map f xs) ys → Pairwise S xs ys
pair_unmap R S f w [] [] h = tt
pair_unmap R S f w [] (y ∷ ys) h = absurd h
pair_unmap R S f w (x ∷ xs) [] h = absurd h
pair_unmap R S f w (x ∷ xs) (y ∷ ys) h = (w x y h.0, pair_unmap R S f w xs ys h.1)

pub every_unmap : {A B : Type 0} (P : B → Type 0) (f : A → B) (xs : List A) → AllByRecursion P (map f xs) → AllByRecursion (λ x. P (f x)) xs
every_unmap P f [] h = tt
every_unmap P f (x ∷ xs) h = (h.0, every_unmap P f xs h.1)

-- ---- the same of tests

pub pairwise_weaken : {A B : Type 0} (R S : A → B → Bool) (xs : List A) (ys : List B) → ((x : A) (y : B) → R x y ≡ true → S x y ≡ true)
    → pairwise R xs ys ≡ true → pairwise S xs ys ≡ true
pairwise_weaken R S xs ys w h = of_pairs S xs ys (pair_weaken R S xs ys w (pairs_of R xs ys h))

pub all_weaken : {A : Type 0} (p q : A → Bool) (xs : List A) → ((x : A) → p x ≡ true → q x ≡ true) → list_all p xs ≡ true
    → list_all q xs ≡ true
all_weaken p q [] w h = refl
all_weaken p q (x ∷ xs) w h = let g = and_parts _ _ h in and_from _ _ (w x g.0) (all_weaken p q xs w g.1)

pub all_append : {A : Type 0} (p : A → Bool) (xs ys : List A) → list_all p xs ≡ true → list_all p ys ≡ true → list_all p (xs ++ ys) ≡ true
all_append p [] ys h g = g
all_append p (x ∷ xs) ys h g = let q = and_parts _ _ h in and_from _ _ q.0 (all_append p xs ys q.1 g)
