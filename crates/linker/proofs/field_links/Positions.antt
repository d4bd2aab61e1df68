-- Where the first item stands that passes a test.
use Rattle.std.proofs.Common.{◌≡◌, ℕ, zero, suc, ◌+◌, Bool, true, false, ltb, subst, cond, List, [], ◌∷◌, ◌++◌, length, map, drop, refl, sym, ap, ◌∙◌, arith, Option, Some, None}
use Rattle.std.proofs.lemmas.Bool.Decides.{nat_tests}
use Rattle.std.specs.Prelude.{position, slice_get, option_map}
use Rattle.std.specs.List.{AllByRecursion, filter, position_or_len}

lt_step : (a n : ℕ) → ltb (1 + a) (suc n) ≡ ltb a n
lt_step a n = grind (arith, nat_tests)

zero_lt : (n : ℕ) → ltb 0 (suc n) ≡ true
zero_lt n = grind (arith, nat_tests)

pub step_over : {A : Type 0} (p : A → Bool) (x : A) (xs : List A) → p x ≡ false
    → position p (x ∷ xs) ≡ option_map (λ (k : ℕ). suc k) (position p xs)
step_over p x xs h = rw (h, lt_step (position_or_len p xs) (length xs)) (by (ltb (position_or_len p xs) (length xs)))
  where
    by : (b : Bool) → cond b (Some (1 + position_or_len p xs)) None
        ≡ option_map (λ (k : ℕ). suc k) (cond b (Some (position_or_len p xs)) None)
    by true = ap (λ (k : ℕ). Some k) (omega arith)
    by false = refl

pub stop_at : {A : Type 0} (p : A → Bool) (x : A) (xs : List A) → p x ≡ true → position p (x ∷ xs) ≡ Some 0
stop_at p x xs h = rw (h, zero_lt (length xs)) refl

-- what stands behind a position
next_of : (o : Option ℕ) (k : ℕ) → option_map (λ (j : ℕ). suc j) o ≡ Some k → (j : ℕ) × (o ≡ Some j) × (suc j ≡ k)
next_of None k q = absurd cc
next_of (Some j) k q = (j, refl, cc)

-- behind items that fail the test
pub position_behind : {A : Type 0} (p : A → Bool) (xs ys : List A) (k : ℕ) → AllByRecursion (λ x. p x ≡ false) xs → position p ys ≡ Some k
    → position p (xs ++ ys) ≡ Some (length xs + k)
position_behind p [] ys k none e = e ∙ ap (λ (j : ℕ). Some j) (omega arith)
position_behind p (x ∷ xs) ys k none e =
    step_over p x (xs ++ ys) none.0 ∙ ap (option_map (λ (j : ℕ). suc j)) (position_behind p xs ys k none.1 e) ∙ ap (λ (j : ℕ). Some j) (omega arith)

-- in front of others
pub position_before : {A : Type 0} (p : A → Bool) (xs ys : List A) (k : ℕ) → position p xs ≡ Some k → position p (xs ++ ys) ≡ Some k
position_before p [] ys k e = absurd cc
position_before p (x ∷ xs) ys k e = by (λ j h. position_before p xs ys j h) (p x) refl
  where
    by : ((j : ℕ) → position p xs ≡ Some j → position p (xs ++ ys) ≡ Some j) → (b : Bool) → p x ≡ b → position p (x ∷ (xs ++ ys)) ≡ Some k
    by rest true h = stop_at p x (xs ++ ys) h ∙ sym (stop_at p x xs h) ∙ e
    by rest false h =
        let more = next_of (position p xs) k (sym (step_over p x xs h) ∙ e) in
        step_over p x (xs ++ ys) h ∙ ap (option_map (λ (j : ℕ). suc j)) (rest more.0 more.1) ∙ ap (λ (j : ℕ). Some j) more.2

-- nowhere
pub position_nowhere : {A : Type 0} (p : A → Bool) (xs : List A) → AllByRecursion (λ x. p x ≡ false) xs → position p xs ≡ None
position_nowhere p [] none = refl
position_nowhere p (x ∷ xs) none = step_over p x xs none.0 ∙ ap (option_map (λ (j : ℕ). suc j)) (position_nowhere p xs none.1)

-- among those that pass another test, counted from their end
abbrev pub IsKept : {A : Type 0} → (A → Bool) → (A → Bool) → List A → ℕ → Type 0
IsKept p q xs i = (k : ℕ) × (position p (filter q xs) ≡ Some k) × (k + length (filter q (drop i xs)) ≡ length (filter q xs))

kept_first : {A : Type 0} (p q : A → Bool) (y : A) (xs : List A) (i : ℕ) → q y ≡ true → p y ≡ true → position p (y ∷ xs) ≡ Some i
    → IsKept p q (y ∷ xs) i
kept_first p q y xs i h t e =
    let z : zero ≡ i = let s : Some zero ≡ Some i = sym (stop_at p y xs t) ∙ e in cc in
    subst (λ n. IsKept p q (y ∷ xs) n) z (0, rw h (stop_at p y (filter q xs) t), omega arith)

kept_later : {A : Type 0} (p q : A → Bool) (y : A) (xs : List A) (i j : ℕ) → p y ≡ false → suc j ≡ i → IsKept p q xs j
    → IsKept p q (y ∷ xs) i
kept_later p q y xs i j t s rest = subst (λ n. IsKept p q (y ∷ xs) n) s (by (q y) refl)
  where
    by : (b : Bool) → q y ≡ b → IsKept p q (y ∷ xs) (suc j)
    by true w = (suc rest.0, rw w (step_over p y (filter q xs) t ∙ ap (option_map (λ (n : ℕ). suc n)) rest.1), rw w (omega (arith, rest.2)))
    by false w = (rest.0, rw w rest.1, rw w rest.2)

pub position_kept : {A : Type 0} (p q : A → Bool) (xs : List A) (i : ℕ) (x : A) → position p xs ≡ Some i → slice_get xs i ≡ Some x
    → q x ≡ true → IsKept p q xs i
position_kept p q [] i x e at h = absurd cc
position_kept p q (y ∷ xs) i x e at h = by (λ j u v. position_kept p q xs j x u v h) (p y) refl
  where
    here : (i : ℕ) → zero ≡ i → slice_get (y ∷ xs) i ≡ Some x → y ≡ x
    here zero z a = cc
    here (suc i) z a = absurd (omega arith)

    there : (i j : ℕ) → suc j ≡ i → slice_get (y ∷ xs) i ≡ Some x → slice_get xs j ≡ Some x
    there zero j z a = absurd (omega arith)
    there (suc i) j z a = let same : j ≡ i = omega arith in ap (slice_get xs) same ∙ a

    by : ((j : ℕ) → position p xs ≡ Some j → slice_get xs j ≡ Some x → IsKept p q xs j) → (b : Bool) → p y ≡ b → IsKept p q (y ∷ xs) i
    by rest true t =
        let z : zero ≡ i = let s : Some zero ≡ Some i = sym (stop_at p y xs t) ∙ e in cc in
        kept_first p q y xs i (ap q (here i z at) ∙ h) t e
    by rest false t =
        let more = next_of (position p xs) i (sym (step_over p y xs t) ∙ e) in
        kept_later p q y xs i more.0 t more.2 (rest more.0 more.1 (there i more.0 more.2 at))

-- among what is made of items, where the tests agree
pub position_matches : {A B : Type 0} (p : B → Bool) (f : A → B) (q : A → Bool) (xs : List A) → AllByRecursion (λ x. p (f x) ≡ q x) xs
    → position p (map f xs) ≡ position q xs
position_matches p f q [] h = refl
position_matches p f q (x ∷ xs) h = by (position_matches p f q xs h.1) (q x) refl
  where
    by : position p (map f xs) ≡ position q xs → (b : Bool) → q x ≡ b → position p (f x ∷ map f xs) ≡ position q (x ∷ xs)
    by rest true t = stop_at p (f x) (map f xs) (h.0 ∙ t) ∙ sym (stop_at q x xs t)
    by rest false t = step_over p (f x) (map f xs) (h.0 ∙ t) ∙ ap (option_map (λ (j : ℕ). suc j)) rest ∙ sym (step_over q x xs t)
