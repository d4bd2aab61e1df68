-- Names and descriptors that differ.
use Rattle.std.proofs.Common.{◌≡◌, ℕ, ◌+◌, ◌<◌, Bool, true, false, not, eqb, ◌&&◌, ◌||◌, cond, List, [], ◌∷◌, ◌++◌, length, map, take, drop, get_or, refl, sym, ap, ◌∙◌, append_assoc, arith, ⊎_elim}
use Rattle.std.specs.Str.{bytes_eq}
use Rattle.std.specs.List.{list_any}
use Rattle.std.proofs.lemmas.List.{map_more, map-append, take-append-drop}
use Rattle.std.proofs.lemmas.List.Folds.{list_any-append, list_any_more}
use Rattle.std.proofs.lemmas.Bool.Decides.{nat_tests}
use mathlib.Core.Bool.{or-false, or-true}
use Rattle.std.proofs.lemmas.Bool.{and_parts, or_parts, or_cases, and_right, or_left, or_right}
use Rattle.model.specs.Pool.{NameAndDescriptor}
use Rattle.model.specs.Tree.{Entry}
use Rattle.model.specs.Conditions.{is_same, differ, name_and_descriptor_at}
use Rattle.constant_pool.specs.Texts.{first_index}
use Rattle.constant_pool.proofs.TextLaws.{same_first}
use Rattle.class_tree.specs.declared.duplicate.Firsts.{Firsts}

eqb_sym : (m n : ℕ) → eqb m n ≡ eqb n m
eqb_sym m n = grind (arith, nat_tests)

bytes_eq_sym : (a b : List ℕ) → bytes_eq a b ≡ bytes_eq b a
bytes_eq_sym [] [] = refl
bytes_eq_sym [] (y ∷ b) = refl
bytes_eq_sym (x ∷ a) [] = refl
bytes_eq_sym (x ∷ a) (y ∷ b) = rw (eqb_sym x y, bytes_eq_sym a b) refl

pub is_same_sym : (a b : NameAndDescriptor) → is_same a b ≡ is_same b a
is_same_sym a b = rw (bytes_eq_sym a.name b.name, bytes_eq_sym a.descriptor b.descriptor) refl

pub differ_push : (xs : List NameAndDescriptor) (y : NameAndDescriptor) → differ xs ≡ true → list_any (is_same y) xs ≡ false
    → differ (xs ++ y ∷ []) ≡ true
differ_push [] y h new = refl
differ_push (x ∷ xs) y h new =
    let here = and_parts (not (list_any (is_same x) xs)) (differ xs) h in
    let apart = or_parts (is_same y x) (list_any (is_same y) xs) new in
    let no : is_same x y ≡ false = is_same_sym x y ∙ apart.0 in
    let rest = differ_push xs y here.1 apart.1 in
    let any : list_any (is_same x) (xs ++ y ∷ []) ≡ list_any (is_same x) xs = list_any-append (is_same x) xs (y ∷ []) ∙ rw no (or-false (list_any (is_same x) xs)) in
    rw (any, here.0, rest) refl

not_first : (any differs : Bool) → any ≡ true → (not any && differs) ≡ false
not_first true differs h = refl
not_first false differs h = absurd cc

pub same_again : (xs : List NameAndDescriptor) (y : NameAndDescriptor) (ys : List NameAndDescriptor) → list_any (is_same y) xs ≡ true
    → differ (xs ++ y ∷ ys) ≡ false
same_again [] y ys h = absurd cc
same_again (x ∷ xs) y ys h =
    ⊎_elim
    (λ same.
    (let there : (is_same x y || list_any (is_same x) ys) ≡ true = or_left (is_same x y) _ (is_same_sym x y ∙ same) in
    let any : list_any (is_same x) (xs ++ y ∷ ys) ≡ true = list_any-append (is_same x) xs (y ∷ ys) ∙ or_right (list_any (is_same x) xs) _ there in
    not_first (list_any (is_same x) (xs ++ y ∷ ys)) (differ (xs ++ y ∷ ys)) any))
    (λ later. and_right (not (list_any (is_same x) (xs ++ y ∷ ys))) (differ (xs ++ y ∷ ys)) (same_again xs y ys later))
    (or_cases (is_same y x) (list_any (is_same y) xs) h)

pub cond_or : (b c : Bool) → cond b true c ≡ (c || b)
cond_or true c = sym (or-true c)
cond_or false c = sym (or-false c)

-- ---- over the members of a list, as a loop goes

pub more_differ : {X : Type 0} (f : X → NameAndDescriptor) (xs : List X) (i : ℕ) (d : X) → i < length xs
    → differ (map f (take i xs)) ≡ true → list_any (is_same (f (get_or xs i d))) (map f (take i xs)) ≡ false
    → differ (map f (take (i + 1) xs)) ≡ true
more_differ f xs i d lt h new = rw (map_more f xs i d lt) (differ_push (map f (take i xs)) (f (get_or xs i d)) h new)

pub found_again : {X : Type 0} (f : X → NameAndDescriptor) (xs : List X) (i : ℕ) (d : X) → i < length xs
    → list_any (is_same (f (get_or xs i d))) (map f (take i xs)) ≡ true → differ (map f xs) ≡ false
found_again f xs i d lt h =
    let behind = drop (i + 1) xs in
    let whole : map f xs ≡ map f (take i xs) ++ f (get_or xs i d) ∷ map f behind =
    ap (λ (l : List _). map f l) (sym (take-append-drop (i + 1) xs)) ∙ map-append f (take (i + 1) xs) behind ∙ ap (λ (l : List NameAndDescriptor). l ++ map f behind) (map_more f xs i d lt) ∙ append_assoc (map f (take i xs)) (f (get_or xs i d) ∷ []) (map f behind) in
    rw whole (same_again (map f (take i xs)) (f (get_or xs i d)) (map f behind) h)

-- ---- by the first indices of names and of descriptors

abbrev pub is_key : Firsts → Firsts → Bool
is_key a b = eqb a.name b.name && eqb a.descriptor b.descriptor

abbrev pub key_at : List Entry → ℕ → ℕ → Firsts
key_at pool name descriptor = record { name = first_index pool name; descriptor = first_index pool descriptor }

abbrev pub key_of : ℕ → ℕ → Firsts
key_of name descriptor = record { name = name; descriptor = descriptor }

pub key_is : (pool : List Entry) (a b m n d e : ℕ) → a ≡ first_index pool m → m ≡ d → b ≡ first_index pool n → n ≡ e
    → key_of a b ≡ key_at pool d e
key_is pool a b m n d e h1 h2 h3 h4 = rw (h1, h2, h3, h4) refl

is_key_sym : (a b : Firsts) → is_key a b ≡ is_key b a
is_key_sym a b = rw (eqb_sym a.name b.name, eqb_sym a.descriptor b.descriptor) refl

any_alike : {X Y : Type 0} (P : X → Bool) (Q : Y → Bool) (f : X → Y) → ((x : X) → P x ≡ Q (f x)) → (xs : List X)
    → list_any P xs ≡ list_any Q (map f xs)
any_alike P Q f h [] = refl
any_alike P Q f h (x ∷ xs) = rw (h x, any_alike P Q f h xs) refl

-- members that have the key of one are the same as it
pub any_same : {X : Type 0} (pool : List Entry) (name descriptor : X → ℕ) (x : X) (xs : List X)
    → list_any (λ m. is_key (key_at pool (name x) (descriptor x)) (key_at pool (name m) (descriptor m))) xs
    ≡ list_any (is_same (name_and_descriptor_at pool (name x) (descriptor x)))
    (map (λ m. name_and_descriptor_at pool (name m) (descriptor m)) xs)
any_same pool name descriptor x xs =
    any_alike _ _ (λ m. name_and_descriptor_at pool (name m) (descriptor m)) (λ m. rw (same_first pool (name x) (name m), same_first pool (descriptor x) (descriptor m)) refl) xs

-- the keys after one more member
pub more_keys : {X : Type 0} (key : X → Firsts) (q new : Firsts) (before after : Bool) (xs : List X) (i : ℕ) (d : X) → i < length xs
    → new ≡ key (get_or xs i d)
    → before ≡ list_any (λ m. is_key q (key m)) (take i xs) → after ≡ cond (is_key new q) true before
    → after ≡ list_any (λ m. is_key q (key m)) (take (i + 1) xs)
more_keys key q new before after xs i d lt is so_far put =
    let same : is_key new q ≡ is_key q (key (get_or xs i d)) = is_key_sym new q ∙ ap (is_key q) is in
    put ∙ cond_or (is_key new q) before ∙ rw (so_far, same) (sym (list_any_more (λ m. is_key q (key m)) xs i d lt))
