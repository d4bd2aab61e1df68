-- The texts of a pool, each at its index, and the first places of those that are the same.
use Rattle.std.proofs.Common.{◌≡◌, eqb, ℕ, zero, suc, ◌+◌, ◌<◌, ◌≤◌, Bool, true, false, cond, ltb, Option, Some, None, List, [], ◌∷◌, ◌++◌, length, map, take, get_or, refl, sym, ap, subst, ◌∙◌, arith}
use Rattle.std.specs.Str.{bytes_eq}
use Rattle.std.specs.Cmp.Lexicographic.{slice_cmp}
use Rattle.std.specs.Ordering.{nat_cmp}
use Rattle.std.specs.BTreeMap.{BTreeMap, get_by, is_at, UpdatesBy}
use Rattle.std.specs.Map.{lookup}
use denote.Ref.{Bor}
use Rattle.std.proofs.lemmas.Bool.{ltb-true, ltb-false, lt-ltb, le-ltb}
use Rattle.std.proofs.lemmas.Bool.Decides.{nat_tests, Decides-eqb, same_from_decides}
use Rattle.std.proofs.lemmas.List.{map_more, map-append, length-map, get_or_past}
use Rattle.std.proofs.lemmas.Map.Text.{btree_map_updates_str}
use Rattle.std.proofs.lemmas.Slice.Eq.{bytes_eq-Decides}
use Rattle.model.specs.Tree.{Entry, Unusable}
use Rattle.model.specs.Spelling.{text_of}
use Rattle.model.specs.Conditions.{text_at}
use Rattle.constant_pool.specs.declared.constant.Constant.{Constant}
use Rattle.constant_pool.specs.View.{entry_of}
use Rattle.constant_pool.specs.Texts.{texts, first_place, first_index, HasPlaces}

-- ---- what is known of each text stands at its index

get_or-map : {X Y : Type 0} (f : X → Y) (xs : List X) (i : ℕ) (d : X) → get_or (map f xs) i (f d) ≡ f (get_or xs i d)
get_or-map f [] i d = refl
get_or-map f (x ∷ xs) zero d = refl
get_or-map f (x ∷ xs) (suc i) d = get_or-map f xs i d

-- the text of an index is that of its place
pub text_in_place : (pool : List Entry) (index : ℕ) → get_or (texts pool) index [] ≡ text_at pool index
text_in_place pool index = get_or-map text_of (Unusable ∷ pool) index Unusable

pub of_text : {Y : Type 0} (f : List ℕ → Y) (pool : List Entry) (index : ℕ)
    → get_or (map f (texts pool)) index (f []) ≡ f (text_at pool index)
of_text f pool index = get_or-map f (texts pool) index [] ∙ ap f (text_in_place pool index)

-- one entry more
pub more_texts : {Y : Type 0} (f : List ℕ → Y) (constants : List Constant) (i : ℕ) (d : Constant) → i < length constants
    → map f (texts (map entry_of (take (i + 1) constants)))
    ≡ map f (texts (map entry_of (take i constants))) ++ f (text_of (entry_of (get_or constants i d))) ∷ []
more_texts f constants i d lt =
    let front = map entry_of (take i constants) in
    let next = entry_of (get_or constants i d) in
    ap (λ (l : List Entry). map f (texts l)) (map_more entry_of constants i d lt)
    ∙ ap (λ (l : List (List ℕ)). f [] ∷ map f l) (map-append text_of front (next ∷ []))
    ∙ ap (λ (l : List _). f [] ∷ l) (map-append f (map text_of front) (text_of next ∷ []))

-- the text of the next entry
pub next_text : (constants : List Constant) (i : ℕ) (d : Constant) → i < length constants
    → get_or (texts (map entry_of constants)) (suc i) [] ≡ text_of (entry_of (get_or constants i d))
next_text [] i d lt = absurd (omega arith)
next_text (c ∷ constants) zero d lt = refl
next_text (c ∷ constants) (suc i) d lt = next_text constants i d (omega arith)

pub text_count : (constants : List Constant) → length (texts (map entry_of constants)) ≡ suc (length constants)
text_count constants = ap suc (length-map (map entry_of constants) text_of ∙ length-map constants entry_of)

-- ---- first places

bytes_eq-same : (text : List ℕ) → bytes_eq text text ≡ true
bytes_eq-same text = (bytes_eq-Decides text text).1 refl

-- where a text is not this one, what is sought stands one place later
later : (is_first : Bool) (place bound : ℕ) → place ≤ bound → cond is_first 0 (suc place) ≤ suc bound
later true place bound le = omega arith
later false place bound le = omega arith

-- no text stands first at a later place than at another
pub no_later : (all : List (List ℕ)) (i : ℕ) → i < length all → first_place all (get_or all i []) ≤ i
no_later [] i lt = absurd (omega arith)
no_later (t ∷ all) zero lt = rw (bytes_eq-same t) (omega arith)
no_later (t ∷ all) (suc i) lt =
    let less : i < length all = omega arith in
    later (bytes_eq t (get_or all i [])) (first_place all (get_or all i [])) i (no_later all i less)

there : (is_first : Bool) (t : List ℕ) (all : List (List ℕ)) (text : List ℕ) (place : ℕ) → (is_first ≡ true → t ≡ text)
    → (place < length all → get_or all place [] ≡ text)
    → cond is_first 0 (suc place) < suc (length all) → get_or (t ∷ all) (cond is_first 0 (suc place)) [] ≡ text
there true t all text place first further lt = first refl
there false t all text place first further lt = further (omega arith)

-- a text stands at its first place
pub stands_there : (all : List (List ℕ)) (text : List ℕ) → first_place all text < length all → get_or all (first_place all text) [] ≡ text
stands_there [] text lt = absurd (omega arith)
stands_there (t ∷ all) text lt = there (bytes_eq t text) t all text (first_place all text) (λ same. (bytes_eq-Decides t text).0 same) (λ less. stands_there all text less) lt

-- the place `here` has this text, and it is the first one of no other
only_this : (all : List (List ℕ)) (here : ℕ) (text other : List ℕ) → here < length all → get_or all here [] ≡ text
    → first_place all other ≡ here → text ≡ other
only_this all here text other lt at is =
    let less : first_place all other < length all = omega arith in
    sym at ∙ ap (λ (i : ℕ). get_or all i []) (sym is) ∙ stands_there all other less

-- what is known of a place below a bound
abbrev Known : ℕ → ℕ → Option ℕ
Known place bound = cond (ltb place bound) (Some place) None

known_by : (b : Bool) (place bound found : ℕ) → (b ≡ true → place < bound) → Some found ≡ cond b (Some place) None
    → (found ≡ place) × (place < bound)
known_by true place bound found lt e = (cc, lt refl)
known_by false place bound found lt e = absurd cc

known_is : (place bound found : ℕ) → Some found ≡ Known place bound → (found ≡ place) × (place < bound)
known_is place bound found h = known_by (ltb place bound) place bound found (ltb-true place bound) h

unknown_by : (b : Bool) (place bound : ℕ) → (b ≡ false → bound ≤ place) → None ≡ cond b (Some place) None → bound ≤ place
unknown_by true place bound le e = absurd cc
unknown_by false place bound le e = le refl

unknown_is : (place bound : ℕ) → None ≡ Known place bound → bound ≤ place
unknown_is place bound h = unknown_by (ltb place bound) place bound (ltb-false place bound) h

same_test : (place here : ℕ) → (place ≡ here → ⊥) → ltb place here ≡ ltb place (here + 1)
same_test place here ne = grind (arith, nat_tests)

known_goes_on : (place here : ℕ) → (place ≡ here → ⊥) → Known place here ≡ Known place (here + 1)
known_goes_on place here ne = ap (λ (b : Bool). cond b (Some place) None) (same_test place here ne)

pub is_known : (all : List (List ℕ)) (here : ℕ) (seen : BTreeMap (Bor (List ℕ)) ℕ) (text : List ℕ) (place : ℕ) → here < length all
    → get_or all here [] ≡ text → HasPlaces all here seen
    → Some place ≡ get_by (λ k. slice_cmp nat_cmp text k.now) seen → (place ≡ first_place all text) × HasPlaces all (here + 1) seen
is_known all here seen text place lt at has found =
    let is = known_is (first_place all text) here place (found ∙ has text) in
    (is.0, λ other. has other ∙ known_goes_on (first_place all other) here (λ same. (let one : text ≡ other = only_this all here text other lt at same in let clash : first_place all text ≡ here = ap (first_place all) one ∙ same in absurd (omega (arith, is.1, clash)))))

-- after the text of the place `here` was put there
put_by : (same : Bool) (all : List (List ℕ)) (here : ℕ) (text other : List ℕ) → (same ≡ true → text ≡ other) → (text ≡ other → same ≡ true)
    → here < length all → get_or all here [] ≡ text → here ≡ first_place all text
    → cond same (Some here) (Known (first_place all other) here) ≡ Known (first_place all other) (here + 1)
put_by true all here text other one is_one lt at is =
    let place : here ≡ first_place all other = is ∙ ap (first_place all) (one refl) in
    let in_bound : ltb (first_place all other) (here + 1) ≡ true = lt-ltb (first_place all other) (here + 1) (omega arith) in
    rw in_bound (ap (λ (n : ℕ). Some n) place)
put_by false all here text other one is_one lt at is =
    known_goes_on (first_place all other) here (λ same. (let clash : false ≡ true = is_one (only_this all here text other lt at same) in absurd cc))

pub is_new : (all : List (List ℕ)) (here : ℕ) (seen after : BTreeMap (Bor (List ℕ)) ℕ) (text : List ℕ) → here < length all
    → get_or all here [] ≡ text → HasPlaces all here seen
    → None ≡ get_by (λ k. slice_cmp nat_cmp text k.now) seen
    → UpdatesBy (λ x y. slice_cmp nat_cmp x.now y.now) (λ k. slice_cmp nat_cmp text k.now) seen after (Some here)
    → (here ≡ first_place all text) × HasPlaces all (here + 1) after
is_new all here seen after text lt at has none updates =
    let above : here ≤ first_place all text = unknown_is (first_place all text) here (none ∙ has text) in
    let below : first_place all text ≤ here = subst (λ (t : List ℕ). first_place all t ≤ here) at (no_later all here lt) in
    let is : here ≡ first_place all text = omega (arith, above, below) in (
      is,
      λ other. btree_map_updates_str text seen after (Some here) updates other ∙ ap (λ (o : Option ℕ). cond (bytes_eq text other) (Some here) o) (has other)
          ∙ put_by (bytes_eq text other) all here text other (bytes_eq-Decides text other).0 (bytes_eq-Decides text other).1 lt at is,
    )

none_below : (place : ℕ) → Known place 0 ≡ None
none_below place = ap (λ (b : Bool). cond b (Some place) None) (le-ltb place 0 (omega arith))

pub no_places : (all : List (List ℕ)) (seen : BTreeMap (Bor (List ℕ)) ℕ) → seen.entries ≡ [] → HasPlaces all 0 seen
no_places all seen empty = λ text. ap (λ (es : List (Bor (List ℕ) × ℕ)). lookup (is_at (λ k. slice_cmp nat_cmp text k.now)) es) empty ∙ sym (none_below (first_place all text))

-- ---- two indices have one first place exactly where they have one text

inside_by : (b : Bool) (pool : List Entry) (index : ℕ) → ltb index (length (texts pool)) ≡ b
    → first_place (texts pool) (get_or (texts pool) index []) < length (texts pool)
inside_by true pool index h =
    let lt : index < length (texts pool) = ltb-true index (length (texts pool)) h in
    let le : first_place (texts pool) (get_or (texts pool) index []) ≤ index = no_later (texts pool) index lt in
    omega (arith, le, lt)
inside_by false pool index h =
    let past : get_or (texts pool) index [] ≡ [] = get_or_past (texts pool) index [] (ltb-false index (length (texts pool)) h) in
    let none : first_place (texts pool) (get_or (texts pool) index []) ≡ 0 = ap (first_place (texts pool)) past in
    omega (arith, none)

first_inside : (pool : List Entry) (index : ℕ) → first_index pool index < length (texts pool)
first_inside pool index = subst (λ (t : List ℕ). first_place (texts pool) t < length (texts pool)) (text_in_place pool index) (inside_by (ltb index (length (texts pool))) pool index refl)

one_text : (pool : List Entry) (i j : ℕ) → first_index pool i ≡ first_index pool j → text_at pool i ≡ text_at pool j
one_text pool i j is =
    sym (stands_there (texts pool) (text_at pool i) (first_inside pool i)) ∙ ap (λ (n : ℕ). get_or (texts pool) n []) is ∙ stands_there (texts pool) (text_at pool j) (first_inside pool j)

pub same_first : (pool : List Entry) (i j : ℕ) → eqb (first_index pool i) (first_index pool j) ≡ bytes_eq (text_at pool i) (text_at pool j)
same_first pool i j =
    same_from_decides {P = text_at pool i ≡ text_at pool j} (eqb (first_index pool i) (first_index pool j)) (bytes_eq (text_at pool i) (text_at pool j))
    (λ h. one_text pool i j ((Decides-eqb (first_index pool i) (first_index pool j)).0 h), λ h. (Decides-eqb (first_index pool i) (first_index pool j)).1 (ap (first_place (texts pool)) h))
    (bytes_eq-Decides (text_at pool i) (text_at pool j))
