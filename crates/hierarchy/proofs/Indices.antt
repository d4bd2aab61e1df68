-- Walks over indices of names, and over classes.
use Rattle.std.proofs.Common.{◌≡◌, ◌∙◌, ℕ, zero, suc, ◌+◌, ◌<◌, Bool, true, false, cond, ◌||◌, List, [], ◌∷◌, ◌++◌, length, drop, take, get_or, refl, sym, ap, subst, arith, length-append, ◌≤◌, Option, Some, None, ⊎_elim}
use Rattle.std.specs.Prelude.{slice_get, find, IfOk, Result, Ok, Err, position, is_some}
use Rattle.std.specs.Option.{option_to_list}
use Rattle.std.specs.List.{list_any, filter_map}
use Rattle.std.proofs.lemmas.List.Folds.{list_any-append}
use Rattle.std.proofs.lemmas.Bool.{or_parts, or_from, or_cases}
use Rattle.model.specs.Names.{Name}
use Rattle.model.specs.BuiltIn.{built_in_classes}
use Rattle.model.specs.Classes.{Program, classes_of}
use Rattle.hierarchy.proofs.Walks.{any_index}
use Rattle.hierarchy.proofs.Names.{found_any}
use Rattle.hierarchy.proofs.Finding.{nowhere}

-- ---- indices of names

-- what is so of a name that an index from a place on gives is so of one that any gives
abbrev pub SameFrom : (Name → Bool) → (ℕ → Option Name) → List ℕ → ℕ → Type 0
SameFrom q h xs i = list_any q (filter_map h (drop i xs)) ≡ list_any q (filter_map h xs)

-- it isn't so of this one
pub no_index : (q : Name → Bool) (h : ℕ → Option Name) (read xs : List ℕ) (i : ℕ) (o : Option Name) (b : Bool) → read ≡ xs
    → i < length read → o ≡ h (get_or read i 0) → b ≡ list_any q (option_to_list o) → b ≡ false
    → SameFrom q h xs i → SameFrom q h xs (i + 1)
no_index q h read xs i o b same less is test fails before =
    let lt : i < length xs = subst (λ (l : List ℕ). i < length l) same less in
    let not_here : list_any q (option_to_list (h (get_or xs i 0))) ≡ false = ap (λ o. list_any q (option_to_list o)) (sym (is ∙ ap (λ (l : List ℕ). h (get_or l i 0)) same)) ∙ sym test ∙ fails in
    ap (λ b. b || list_any q (filter_map h (drop (i + 1) xs))) (sym not_here) ∙ sym (any_index q h xs i lt) ∙ before

-- ---- tests of items

pub take_one_more : {A : Type 0} (xs : List A) (i : ℕ) (x : A) → slice_get xs i ≡ Some x → take (i + 1) xs ≡ take i xs ++ x ∷ []
take_one_more [] i x e = absurd cc
take_one_more (y ∷ xs) zero x e = let same : y ≡ x = cc in ap (λ z. z ∷ []) same
take_one_more (y ∷ xs) (suc i) x e = let more : suc i + 1 ≡ suc (i + 1) = omega arith in rw more (ap (λ l. y ∷ l) (take_one_more xs i x e))

pub take_whole : {A : Type 0} (xs : List A) (i : ℕ) → slice_get xs i ≡ None → take i xs ≡ xs
take_whole [] zero e = refl
take_whole [] (suc i) e = refl
take_whole (y ∷ xs) zero e = absurd cc
take_whole (y ∷ xs) (suc i) e = ap (λ l. y ∷ l) (take_whole xs i e)

pub none_more : {A : Type 0} (p : A → Bool) (xs : List A) (i : ℕ) (x : A) → slice_get xs i ≡ Some x → list_any p (take i xs) ≡ false
    → p x ≡ false → list_any p (take (i + 1) xs) ≡ false
none_more p xs i x e h k = ap (list_any p) (take_one_more xs i x e) ∙ list_any-append p (take i xs) (x ∷ []) ∙ or_from _ _ h (or_from _ _ k refl)

pub none_all : {A : Type 0} (p : A → Bool) (xs : List A) (i : ℕ) → slice_get xs i ≡ None → list_any p (take i xs) ≡ false
    → list_any p xs ≡ false
none_all p xs i e h = ap (list_any p) (sym (take_whole xs i e)) ∙ h

pub no_position : {A : Type 0} (p : A → Bool) (xs : List A) → position p xs ≡ None → list_any p xs ≡ false
no_position p xs e = sym (found_any p xs) ∙ ap is_some (nowhere p xs e)

-- what is so of no item isn't so of the one that is found
pub not_found : {A : Type 0} (p q : A → Bool) (xs : List A) (x : A) → find p xs ≡ Some x → list_any q xs ≡ false → q x ≡ false
not_found p q [] x e h = absurd cc
not_found p q (y ∷ ys) x e h = let here = or_parts (q y) (list_any q ys) h in by (p y) here.0 (λ more. not_found p q ys x more here.1) e
  where
    by : (b : Bool) → q y ≡ false → (find p ys ≡ Some x → q x ≡ false) → cond b (Some y) (find p ys) ≡ Some x → q x ≡ false
    by true fails more e = let same : y ≡ x = cc in subst (λ z. q z ≡ false) same fails
    by false fails more e = more e

-- an item that passes one test and fails another, of which no item passes the second
pub none_both : {A : Type 0} {G : Type 0} (p q : A → Bool) (xs : List A) → list_any q xs ≡ false → ((x : A) → q x ≡ false → p x ≡ true → G)
    → list_any p xs ≡ true → G
none_both p q [] h f e = absurd cc
none_both p q (y ∷ ys) h f e =
    let here = or_parts (q y) (list_any q ys) h in
    ⊎_elim (λ passes. f y here.0 passes) (λ more. none_both p q ys here.1 f more) (or_cases (p y) (list_any p ys) e)

-- ---- files behind the built-in classes

pub get_front : {A : Type 0} (xs ys : List A) (k : ℕ) → k < length xs → slice_get (xs ++ ys) k ≡ slice_get xs k
get_front [] ys k lt = absurd (omega arith)
get_front (x ∷ xs) ys zero lt = refl
get_front (x ∷ xs) ys (suc k) lt = get_front xs ys k (omega arith)

pub get_behind : {A : Type 0} (xs ys : List A) (k : ℕ) → slice_get (xs ++ ys) (length xs + k) ≡ slice_get ys k
get_behind [] ys k = let same : zero + k ≡ k = omega arith in ap (slice_get ys) same
get_behind (x ∷ xs) ys k = let same : suc (length xs) + k ≡ suc (length xs + k) = omega arith in rw same (get_behind xs ys k)

pub built_in_count : length built_in_classes ≡ 37
unfolding built_in_classes
built_in_count = refl

pub file_behind : (files : Program) (k : ℕ) → slice_get (classes_of files) (37 + k) ≡ slice_get files k
file_behind files k = ap (λ n. slice_get (classes_of files) (n + k)) (sym built_in_count) ∙ get_behind built_in_classes files k

pub count_behind : (files : Program) → length (classes_of files) ≡ 37 + length files
count_behind files = length-append built_in_classes files ∙ ap (λ n. n + length files) built_in_count

pub take_enough : {A : Type 0} (xs : List A) (n : ℕ) → length xs ≤ n → take n xs ≡ xs
take_enough [] zero h = refl
take_enough [] (suc n) h = refl
take_enough (x ∷ xs) zero h = absurd (omega (arith, h))
take_enough (x ∷ xs) (suc n) h = ap (λ l. x ∷ l) (take_enough xs n (omega (arith, h)))

-- ---- results

pub ok_weaken : {A E : Type 0} (P Q : A → Type 0) → ((x : A) → P x → Q x) → (r : Result A E) → IfOk r P → IfOk r Q
ok_weaken P Q f (Ok x) h = f x h
ok_weaken P Q f (Err e) h = tt
