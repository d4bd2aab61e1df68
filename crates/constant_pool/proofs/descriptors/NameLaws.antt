-- Class names, read from left to right.
use Rattle.std.proofs.Common.{◌≡◌, ◌<◌, ℕ, Bool, true, false, not, ◌&&◌, ◌||◌, cond, eqb, ltb, List, [], ◌∷◌, length, refl, sym, ◌∙◌, arith, IsTrue}
use Rattle.std.specs.List.{list_all}
use Rattle.std.proofs.lemmas.Bool.Decides.{nat_tests}
use mathlib.Core.Bool.{or-false, or-true, and-true}
use Rattle.std.proofs.lemmas.Bool.{and_parts}
use Rattle.model.specs.Descriptors.{is_name_byte, is_unqualified, with_first, names_of, is_class_name}
use Rattle.constant_pool.specs.descriptors.Scan.{joined}

-- of the names between the slashes, the first with a byte before it where it is begun
opened : Bool → List (List ℕ) → Bool
opened begun [] = begun
opened begun (name ∷ names) = (begun || ltb 0 (length name)) && (list_all is_name_byte name && list_all is_unqualified names)

and_assoc : (a b c : Bool) → ((a && b) && c) ≡ (a && (b && c))
and_assoc true b c = refl
and_assoc false b c = refl

some_bytes : (b : ℕ) (name : List ℕ) → ltb 0 (length (b ∷ name)) ≡ true
some_bytes b name = grind (arith, nat_tests)

-- names that are not begun are all unqualified; there is always one
opened_all : (names : List (List ℕ)) → 0 < length names → opened false names ≡ list_all is_unqualified names
unfolding opened
opened_all [] some = absurd (omega arith)
opened_all (name ∷ names) some = sym (and_assoc (ltb 0 (length name)) (list_all is_name_byte name) (list_all is_unqualified names))

with_first_some : (b : ℕ) (names : List (List ℕ)) → 0 < length (with_first b names)
with_first_some b [] = omega arith
with_first_some b (name ∷ names) = omega arith

choose_some : (t : Bool) (a b : List (List ℕ)) → 0 < length a → 0 < length b → 0 < length (cond t a b)
choose_some true a b h k = h
choose_some false a b h k = k

names_some : (text : List ℕ) → 0 < length (names_of text)
names_some [] = omega arith
names_some (b ∷ bytes) = choose_some (eqb b 47) ([] ∷ names_of bytes) (with_first b (names_of bytes)) (omega arith) (with_first_some b (names_of bytes))

opened_first : (begun : Bool) (b : ℕ) (names : List (List ℕ)) → 0 < length names
    → opened begun (with_first b names) ≡ (is_name_byte b && opened true names)
unfolding opened
opened_first begun b [] some = absurd (omega arith)
opened_first begun b (name ∷ names) some =
    rw (some_bytes b name, or-true begun) (and_assoc (is_name_byte b) (list_all is_name_byte name) (list_all is_unqualified names))

joined_more : (t : Bool) (begun : Bool) (b : ℕ) (names : List (List ℕ)) (before after : Bool) → 0 < length names
    → before ≡ opened false names → after ≡ opened true names
    → cond t (begun && before) (is_name_byte b && after) ≡ opened begun (cond t ([] ∷ names) (with_first b names))
unfolding opened
joined_more true begun b names before after some is then = rw (is, opened_all names some, or-false begun) refl
joined_more false begun b names before after some is then = rw then (sym (opened_first begun b names some))

joined_is : (begun : Bool) (text : List ℕ) → joined begun text ≡ opened begun (names_of text)
unfolding joined opened
joined_is begun [] = sym (rw (or-false begun) (and-true begun))
joined_is begun (b ∷ bytes) = joined_more (eqb b 47) begun b (names_of bytes) (joined false bytes) (joined true bytes) (names_some bytes) (joined_is false bytes) (joined_is true bytes)

pub class_name : (text : List ℕ) → joined false text ≡ is_class_name text
class_name text = joined_is false text ∙ opened_all (names_of text) (names_some text)

-- ---- no name has a semicolon

abbrev pub is_inside : ℕ → Bool
is_inside b = not (eqb b 59)

inside_byte : (b : ℕ) → is_name_byte b ≡ true → is_inside b ≡ true
inside_byte b h = grind (arith, nat_tests)

slash_inside : (b : ℕ) → eqb b 47 ≡ true → is_inside b ≡ true
slash_inside b h = grind (arith, nat_tests)

name_bytes : List (List ℕ) → Bool
name_bytes names = list_all (list_all is_name_byte) names

only_name_bytes : (names : List (List ℕ)) → list_all is_unqualified names ≡ true → name_bytes names ≡ true
unfolding name_bytes
only_name_bytes [] h = refl
only_name_bytes (name ∷ names) h =
    let k = and_parts (is_unqualified name) (list_all is_unqualified names) h in
    rw ((and_parts (ltb 0 (length name)) (list_all is_name_byte name) k.0).1, only_name_bytes names k.1) refl

first_byte : (b : ℕ) (names : List (List ℕ)) → name_bytes (with_first b names) ≡ true → (is_name_byte b ≡ true) × (name_bytes names ≡ true)
unfolding name_bytes
first_byte b [] h = ((and_parts (is_name_byte b) true (sym (and-true (is_name_byte b && true)) ∙ h)).0, refl)
first_byte b (name ∷ names) h =
    let k = and_parts (is_name_byte b && list_all is_name_byte name) (list_all (list_all is_name_byte) names) h in
    let l = and_parts (is_name_byte b) (list_all is_name_byte name) k.0 in
    (l.0, rw (l.1, k.1) refl)

inside_more : (t : Bool) (b : ℕ) (names : List (List ℕ)) (inside : Bool) → eqb b 47 ≡ t → (name_bytes names ≡ true → inside ≡ true)
    → name_bytes (cond t ([] ∷ names) (with_first b names)) ≡ true → (is_inside b && inside) ≡ true
unfolding name_bytes
inside_more true b names inside is rest h = rw (slash_inside b is, rest h) refl
inside_more false b names inside is rest h = let k = first_byte b names h in rw (inside_byte b k.0, rest k.1) refl

inside : (text : List ℕ) → name_bytes (names_of text) ≡ true → list_all is_inside text ≡ true
inside [] h = refl
inside (b ∷ bytes) h = inside_more (eqb b 47) b (names_of bytes) (list_all is_inside bytes) refl (inside bytes) h

pub class_name_inside : (text : List ℕ) → IsTrue (is_class_name text) → IsTrue (list_all is_inside text)
class_name_inside text h = inside text (only_name_bytes (names_of text) h)
