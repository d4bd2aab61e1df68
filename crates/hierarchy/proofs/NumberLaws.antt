-- Rows of numbers, and the names that they stand for.
use Rattle.std.proofs.Common.{◌≡◌, ◌∙◌, ℕ, zero, suc, ◌+◌, ◌<◌, Bool, true, false, cond, ◌||◌, List, [], ◌∷◌, ◌++◌, length, map, drop, drop-cons, get_or, refl, sym, ap, arith, Option, Some, None}
use Rattle.std.specs.Prelude.{slice_get, nat_eq, position, find, option_map}
use Rattle.std.specs.Option.{option_and_then, option_map_or, option_to_list, option_or}
use Rattle.std.specs.List.{flat_map, filter_map, cons_option, list_any, AllByRecursion, IsDistinct}
use Rattle.std.proofs.lemmas.List.{append-nil, map-append}
use Rattle.std.proofs.lemmas.List.Elements.{filter_map-append}
use Rattle.std.proofs.lemmas.List.Folds.{list_any-append}
use Rattle.std.proofs.lemmas.Bool.{or_left, or_right, eqb-true, eq-eqb}
use mathlib.Core.Bool.{or-false}
use Rattle.std.proofs.lemmas.Map.Keys.{IsDistinct-head, IsDistinct-tail}
use Rattle.std.proofs.lemmas.Option.{slice_get-map}
use Rattle.model.specs.Names.{Name, name_eq, Member}
use Rattle.model.specs.Tree.{FileTree}
use Rattle.model.specs.Classes.{Program, name_of, classes_of, class_of, is_named, interfaces_above, interface_names, super_name_of}
use Rattle.model.specs.Lookup.{first_found}
use Rattle.hierarchy.specs.Places.{place_of}
use Rattle.hierarchy.specs.declared.rows.Above as declared_above
use Rattle.hierarchy.specs.declared.rows.Above.TheVariants as above
use Rattle.hierarchy.specs.Above.{with_name, with_names, each_once, directly_above, names_above, row_of, rows_of}
use Rattle.hierarchy.specs.Numbers.{with_number, with_numbers, names_of, named_rows, AreApart, HasAll, HasNames, direct_names, names_in}
use Rattle.hierarchy.proofs.Finding.{position_within, passes_at, find_passes}
use Rattle.hierarchy.proofs.SetLaws.{same_name, no_item}
use Rattle.hierarchy.proofs.Walks.{above_is}
use Rattle.hierarchy.proofs.RowLaws.{name_eq_refl, row_is, with_names-append, all_added, drop_at, moved}

-- ---- a table in which no name stands twice

none_same : {K : Type 0} (items : K → Name) (x : K) (keys : List K) (j : ℕ) (name : Name)
    → AllByRecursion (λ y. name_eq (items x) (items y) ≡ false) keys → slice_get (map items keys) j ≡ Some name → items x ≡ name → ⊥
none_same items x [] j name all at is = absurd cc
none_same items x (y ∷ keys) zero name all at is =
    let here : items y ≡ name = cc in
    let both : name_eq (items x) (items y) ≡ true = ap (λ n. name_eq n (items y)) (is ∙ sym here) ∙ name_eq_refl (items y) in
    let first = all.0 in
    absurd cc
none_same items x (y ∷ keys) (suc j) name all at is = none_same items x keys j name all.1 at is

pub are_apart : {K : Type 0} (items : K → Name) (keys : List K) → IsDistinct (λ x y. name_eq (items x) (items y)) keys
    → AreApart (map items keys)
are_apart items [] d i j name at there = absurd cc
are_apart items (x ∷ keys) d zero zero name at there = refl
are_apart items (x ∷ keys) d zero (suc j) name at there =
    let here : items x ≡ name = cc in
    absurd (none_same items x keys j name (IsDistinct-head (λ x y. name_eq (items x) (items y)) x keys d) there here)
are_apart items (x ∷ keys) d (suc i) zero name at there =
    let here : items x ≡ name = cc in
    absurd (none_same items x keys i name (IsDistinct-head (λ x y. name_eq (items x) (items y)) x keys d) at here)
are_apart items (x ∷ keys) d (suc i) (suc j) name at there =
    ap suc (are_apart items keys (IsDistinct-tail (λ x y. name_eq (items x) (items y)) x keys d) i j name at there)

-- the number of a name is the place at which it stands
pub number_is : (names : List Name) (name : Name) (k : ℕ) → Some k ≡ position (name_eq name) names → slice_get names k ≡ Some name
number_is names name k is = by (slice_get names k) refl
  where
    by : (o : Option Name) → slice_get names k ≡ o → slice_get names k ≡ Some name
    by None at = absurd (no_item names k (position_within (name_eq name) names k (sym is)) at)
    by (Some x) at =
        let same : name ≡ x = same_name name x (find_passes (name_eq name) names x (passes_at (name_eq name) names k x (sym is) at)) in
        at ∙ ap Some (sym same)

-- ---- a name among those that numbers stand for

among_names : (q : Name → Bool) (o : Option Name) (rest : List Name)
    → list_any q (cons_option o rest) ≡ (list_any q (option_to_list o) || list_any q rest)
among_names q None rest = refl
among_names q (Some x) rest = ap (λ b. b || list_any q rest) (sym (or-false (q x)))

same_number : (names : List Name) (k n : ℕ) (name : Name) → AreApart names → slice_get names k ≡ Some name
    → nat_eq k n ≡ list_any (name_eq name) (option_to_list (slice_get names n))
same_number names k n name apart is = by (nat_eq k n) refl
  where
    other : (o : Option Name) (b : Bool) → slice_get names n ≡ o → list_any (name_eq name) (option_to_list o) ≡ b
        → nat_eq k n ≡ false → false ≡ list_any (name_eq name) (option_to_list o)
    other None b at e differ = refl
    other (Some x) false at e differ = sym e
    other (Some x) true at e differ =
        let same : name ≡ x = same_name name x (sym (or-false (name_eq name x)) ∙ e) in
        let equal : k ≡ n = apart k n name is (at ∙ ap Some (sym same)) in
        let both : nat_eq k n ≡ true = eq-eqb k n equal in
        absurd cc

    by : (b : Bool) → nat_eq k n ≡ b → b ≡ list_any (name_eq name) (option_to_list (slice_get names n))
    by true e =
        let same : k ≡ n = eqb-true k n e in
        sym (ap (λ m. list_any (name_eq name) (option_to_list (slice_get names m))) (sym same) ∙ ap (λ o. list_any (name_eq name) (option_to_list o)) is ∙ ap (λ b. b || false) (name_eq_refl name))
    by false e = other (slice_get names n) _ refl refl e

-- a number is among others where its name is among theirs
pub number_among : (names : List Name) (numbers : List ℕ) (k : ℕ) (name : Name) → AreApart names → slice_get names k ≡ Some name
    → list_any (nat_eq k) numbers ≡ list_any (name_eq name) (names_of names numbers)
number_among names [] k name apart is = refl
number_among names (n ∷ numbers) k name apart is =
    ap (λ b. b || list_any (nat_eq k) numbers) (same_number names k n name apart is)
    ∙ ap (λ b. list_any (name_eq name) (option_to_list (slice_get names n)) || b) (number_among names numbers k name apart is)
    ∙ sym (among_names (name_eq name) (slice_get names n) (names_of names numbers))

-- a name that the table doesn't have is among none
pub none_among : (names : List Name) (numbers : List ℕ) (name : Name) → list_any (name_eq name) names ≡ false
    → list_any (name_eq name) (names_of names numbers) ≡ false
none_among names [] name none = refl
none_among names (n ∷ numbers) name none =
    among_names (name_eq name) (slice_get names n) (names_of names numbers)
    ∙ ap (λ b. list_any (name_eq name) (option_to_list (slice_get names n)) || b) (none_among names numbers name none)
    ∙ or-false (list_any (name_eq name) (option_to_list (slice_get names n)))
    ∙ here names n none
  where
    here : (names : List Name) (n : ℕ) → list_any (name_eq name) names ≡ false → list_any (name_eq name) (option_to_list (slice_get names n)) ≡ false
    here [] n none = refl
    here (x ∷ names) zero none = first (name_eq name x) none
      where
        first : (b : Bool) → (b || list_any (name_eq name) names) ≡ false → (b || false) ≡ false
        first true e = absurd cc
        first false e = refl
    here (x ∷ names) (suc n) none = here names n (later (name_eq name x) none)
      where
        later : (b : Bool) → (b || list_any (name_eq name) names) ≡ false → list_any (name_eq name) names ≡ false
        later true e = absurd cc
        later false e = e

-- ---- numbers, each once

pub named_number : (names : List Name) (acc : List ℕ) (k : ℕ) → AreApart names
    → names_of names (with_number acc k) ≡ with_names (names_of names acc) (option_to_list (slice_get names k))
named_number names acc k apart = by (slice_get names k) refl
  where
    put : (o : Option Name) → slice_get names k ≡ o → names_of names (acc ++ k ∷ []) ≡ names_of names acc ++ option_to_list o
    put None at = filter_map-append (slice_get names) acc (k ∷ []) ∙ ap (λ o. names_of names acc ++ cons_option o []) at
    put (Some x) at = filter_map-append (slice_get names) acc (k ∷ []) ∙ ap (λ o. names_of names acc ++ cons_option o []) at

    by : (o : Option Name) → slice_get names k ≡ o → names_of names (with_number acc k) ≡ with_names (names_of names acc) (option_to_list o)
    by None at = none (list_any (nat_eq k) acc)
      where
        none : (b : Bool) → names_of names (cond b acc (acc ++ k ∷ [])) ≡ names_of names acc
        none true = refl
        none false = put None at ∙ append-nil (names_of names acc)
    by (Some x) at =
        some (list_any (nat_eq k) acc)
        ∙ ap (λ b. cond b (names_of names acc) (names_of names acc ++ x ∷ [])) (number_among names acc k x apart at)
      where
        some : (b : Bool) → names_of names (cond b acc (acc ++ k ∷ [])) ≡ cond b (names_of names acc) (names_of names acc ++ x ∷ [])
        some true = refl
        some false = put (Some x) at

pub named_numbers : (names : List Name) (acc xs : List ℕ) → AreApart names
    → names_of names (with_numbers acc xs) ≡ with_names (names_of names acc) (names_of names xs)
named_numbers names acc [] apart = refl
named_numbers names acc (k ∷ xs) apart =
    named_numbers names (with_number acc k) xs apart
    ∙ ap (λ l. with_names l (names_of names xs)) (named_number names acc k apart)
    ∙ by (slice_get names k)
  where
    by : (o : Option Name) → with_names (with_names (names_of names acc) (option_to_list o)) (names_of names xs)
        ≡ with_names (names_of names acc) (cons_option o (names_of names xs))
    by None = refl
    by (Some x) = refl

-- one number more, and one less of those that are still to come
pub number_added : (acc row numbers : List ℕ) (i k : ℕ) (all : List ℕ) → slice_get numbers i ≡ Some k → row ≡ with_number acc k
    → with_numbers acc (drop i numbers) ≡ all → with_numbers row (drop (i + 1) numbers) ≡ all
number_added acc row numbers i k all at is e = ap (λ r. with_numbers r (drop (i + 1) numbers)) is ∙ ap (with_numbers acc) (sym (drop_at numbers i k at)) ∙ e

-- ---- rows

pub row_named : (files : Program) (names : List Name) (rows : List (List ℕ)) (name : Name)
    → names_of names (row_of files rows name) ≡ row_of files (named_rows names rows) name
row_named files names rows name = by (place_of files name)
  where
    there : (o : Option (List ℕ))
        → names_of names (option_map_or (λ row. row) o []) ≡ option_map_or (λ row. row) (option_and_then (λ row. Some (names_of names row)) o) []
    there None = refl
    there (Some row) = refl

    get : (o : Option (List ℕ)) → option_and_then (λ row. Some (names_of names row)) o ≡ option_map (names_of names) o
    get None = refl
    get (Some row) = refl

    by : (o : Option ℕ) → names_of names (option_map_or (λ row. row) (option_and_then (slice_get rows) o) [])
        ≡ option_map_or (λ row. row) (option_and_then (slice_get (named_rows names rows)) o) []
    by None = refl
    by (Some k) =
        there (slice_get rows k)
        ∙ ap (λ o. option_map_or (λ row. row) o []) (get (slice_get rows k) ∙ sym (slice_get-map (names_of names) rows k))

pub named_row : (files : Program) (names : List Name) (rows : List (List ℕ)) (row : List ℕ) (name : Name) → row ≡ row_of files rows name
    → names_of names row ≡ row_of files (named_rows names rows) name
named_row files names rows row name is = ap (names_of names) is ∙ row_named files names rows name

-- the row of a class, by the rows that are kept of superinterfaces
pub interface_row : (files : Program) (names : List Name) (kept read : List (List ℕ)) (row : List ℕ) (class : Name)
    → named_rows names kept ≡ rows_of files above.Interfaces (suc (length (classes_of files))) → read ≡ kept → row ≡ row_of files read class
    → names_of names row ≡ each_once (interfaces_above files class)
interface_row files names kept read row class is same found =
    named_row files names read row class found ∙ ap (λ r. row_of files (named_rows names r) class) same ∙ ap (λ r. row_of files r class) is
    ∙ row_is files above.Interfaces (suc (length (classes_of files))) class ∙ ap each_once (above_is files class)

-- a name, and then those of its row
pub with_row : (names : List Name) (old row above new : List ℕ) (k : ℕ) (name : Name) (others : List Name) → AreApart names
    → slice_get names k ≡ Some name → row ≡ with_number old k → new ≡ with_numbers row above → names_of names above ≡ others
    → names_of names new ≡ with_names (names_of names old) (name ∷ others)
with_row names old row above new k name others apart at first then is =
    ap (names_of names) then ∙ named_numbers names row above apart
    ∙ ap (λ l. with_names (names_of names row) l) is
    ∙ ap (λ l. with_names l others) (ap (names_of names) first ∙ named_number names old k apart ∙ ap (λ o. with_names (names_of names old) (option_to_list o)) at)

pub named_pushed : (names : List Name) {A : Type 0} (f : A → List Name) (done new : List (List ℕ)) (row : List ℕ) (xs : List A) (i : ℕ) (x : A)
    (all : List (List Name))
    → slice_get xs i ≡ Some x → names_of names row ≡ f x → new ≡ done ++ row ∷ [] → named_rows names done ++ map f (drop i xs) ≡ all
    → named_rows names new ++ map f (drop (i + 1) xs) ≡ all
named_pushed names f done new row xs i x all at is pushed e =
    ap (λ (l : List (List Name)). l ++ map f (drop (i + 1) xs)) (ap (named_rows names) pushed ∙ map-append (names_of names) done (row ∷ []) ∙ ap (λ r. named_rows names done ++ r ∷ []) is)
    ∙ moved f (named_rows names done) xs i x all at e

pub no_rows : (files : Program) (kind : declared_above.Above) (names : List Name) (rows : List (List ℕ))
    → rows ≡ map (λ (file : FileTree). []) (classes_of files) → named_rows names rows ≡ rows_of files kind zero
unfolding rows_of
no_rows files kind names rows is = ap (named_rows names) is ∙ each (classes_of files)
  where
    each : (xs : List FileTree) → named_rows names (map (λ (file : FileTree). []) xs)
        ≡ map (λ (file : FileTree). each_once (names_above (directly_above files kind) zero (name_of file))) xs
    each [] = refl
    each (x ∷ xs) = ap (λ l. [] ∷ l) (each xs)

-- ---- the names of what stands directly above a class

among_found : (p : FileTree → Bool) (q : Name → Bool) (f : FileTree → List Name) (xs : List FileTree) (x : FileTree) → find p xs ≡ Some x
    → list_any q (f x) ≡ true → list_any q (flat_map f xs) ≡ true
among_found p q f [] x e h = absurd cc
among_found p q f (y ∷ xs) x e h = list_any-append q (f y) (flat_map f xs) ∙ by (p y) (λ more. among_found p q f xs x more h) e
  where
    by : (b : Bool) → (find p xs ≡ Some x → list_any q (flat_map f xs) ≡ true) → cond b (Some y) (find p xs) ≡ Some x
        → (list_any q (f y) || list_any q (flat_map f xs)) ≡ true
    by true more e = let same : y ≡ x = cc in or_left (list_any q (f y)) (list_any q (flat_map f xs)) (ap (λ z. list_any q (f z)) same ∙ h)
    by false more e = or_right (list_any q (f y)) (list_any q (flat_map f xs)) (more e)

pub has_direct : (files : Program) (names : List Name) (class : Name) (file : FileTree) → HasNames files names
    → class_of files class ≡ Some file → HasAll names (direct_names file)
unfolding names_in
has_direct files names class file is found name h =
    ap (list_any (name_eq name)) is
    ∙ all_added (each_once (map name_of (classes_of files))) (flat_map direct_names (classes_of files)) name
    (among_found (is_named class) (name_eq name) direct_names (classes_of files) file found h)

pub has_interfaces : (names : List Name) (file : FileTree) → HasAll names (direct_names file) → HasAll names (interface_names file)
has_interfaces names file all name h =
    all name (list_any-append (name_eq name) (interface_names file) (option_to_list (super_name_of file)) ∙ or_left _ (list_any (name_eq name) (option_to_list (super_name_of file))) h)

pub has_superclass : (names : List Name) (file : FileTree) → HasAll names (direct_names file)
    → HasAll names (option_to_list (super_name_of file))
has_superclass names file all name h =
    all name (list_any-append (name_eq name) (interface_names file) (option_to_list (super_name_of file)) ∙ or_right (list_any (name_eq name) (interface_names file)) _ h)

pub has_name : (names : List Name) (name : Name) → HasAll names (name ∷ []) → list_any (name_eq name) names ≡ true
has_name names name all = all name (or_left (name_eq name name) false (name_eq_refl name))

-- the name that an index gives is one of those that indices give
pub index_among : (q : Name → Bool) (h : ℕ → Option Name) (xs : List ℕ) (i : ℕ) → i < length xs
    → list_any q (option_to_list (h (get_or xs i 0))) ≡ true → list_any q (filter_map h xs) ≡ true
index_among q h [] i lt e = absurd (omega arith)
index_among q h (x ∷ xs) zero lt e = among_names q (h x) (filter_map h xs) ∙ or_left (list_any q (option_to_list (h x))) (list_any q (filter_map h xs)) e
index_among q h (x ∷ xs) (suc i) lt e = among_names q (h x) (filter_map h xs) ∙ or_right (list_any q (option_to_list (h x))) (list_any q (filter_map h xs)) (index_among q h xs i (omega arith) e)

-- ---- what is found among the names of a row

found_next : (f : Name → Option Member) (o : Option Name) (rest : List Name)
    → first_found f (cons_option o rest) ≡ option_or (option_and_then f o) (first_found f rest)
found_next f None rest = refl
found_next f (Some x) rest = refl

found_at : (f : Name → Option Member) (names : List Name) (row : List ℕ) (i k : ℕ) → slice_get row i ≡ Some k
    → first_found f (names_of names (drop i row)) ≡ option_or (option_and_then f (slice_get names k)) (first_found f (names_of names (drop (i + 1) row)))
found_at f names row i k at =
    ap (λ l. first_found f (names_of names l)) (drop_at row i k at) ∙ found_next f (slice_get names k) (names_of names (drop (i + 1) row))

pub number_found : (f : Name → Option Member) (names : List Name) (row : List ℕ) (i k : ℕ) (m : Member) (all : Option Member)
    → slice_get row i ≡ Some k → Some m ≡ option_and_then f (slice_get names k) → first_found f (names_of names (drop i row)) ≡ all → Some m ≡ all
number_found f names row i k m all at is e =
    ap (λ o. option_or o (first_found f (names_of names (drop (i + 1) row)))) is ∙ sym (found_at f names row i k at) ∙ e

pub number_next : (f : Name → Option Member) (names : List Name) (row : List ℕ) (i k : ℕ) (all : Option Member)
    → slice_get row i ≡ Some k → None ≡ option_and_then f (slice_get names k) → first_found f (names_of names (drop i row)) ≡ all
    → first_found f (names_of names (drop (i + 1) row)) ≡ all
number_next f names row i k all at is e =
    ap (λ o. option_or o (first_found f (names_of names (drop (i + 1) row)))) is ∙ sym (found_at f names row i k at) ∙ e

-- ---- the names of a table in the making

pub index_named : (h : ℕ → Option Name) (acc row : List Name) (xs : List ℕ) (i : ℕ) (all : List Name) → i < length xs
    → row ≡ with_names acc (option_to_list (h (get_or xs i 0))) → with_names acc (filter_map h (drop i xs)) ≡ all
    → with_names row (filter_map h (drop (i + 1) xs)) ≡ all
index_named h acc row xs i all lt is e =
    ap (λ r. with_names r (filter_map h (drop (i + 1) xs))) is ∙ by (h (get_or xs i 0)) ∙ ap (λ (l : List ℕ). with_names acc (filter_map h l)) (sym here) ∙ e
  where
    here : drop i xs ≡ get_or xs i 0 ∷ drop (i + 1) xs
    here = let more : suc i ≡ i + 1 = omega arith in drop-cons xs i 0 lt ∙ ap (λ k. get_or xs i 0 ∷ drop k xs) more

    by : (o : Option Name) → with_names (with_names acc (option_to_list o)) (filter_map h (drop (i + 1) xs))
        ≡ with_names acc (cons_option o (filter_map h (drop (i + 1) xs)))
    by None = refl
    by (Some x) = refl

pub class_named : (acc row : List Name) (xs : List FileTree) (i : ℕ) (x : FileTree) (all : List Name) → slice_get xs i ≡ Some x
    → row ≡ with_name acc (name_of x) → with_names acc (map name_of (drop i xs)) ≡ all → with_names row (map name_of (drop (i + 1) xs)) ≡ all
class_named acc row xs i x all at is e =
    ap (λ r. with_names r (map name_of (drop (i + 1) xs))) is ∙ ap (λ (l : List FileTree). with_names acc (map name_of l)) (sym (drop_at xs i x at)) ∙ e

pub direct_named : (acc row : List Name) (xs : List FileTree) (i : ℕ) (x : FileTree) (all : List Name) → slice_get xs i ≡ Some x
    → row ≡ with_names acc (direct_names x) → with_names acc (flat_map direct_names (drop i xs)) ≡ all
    → with_names row (flat_map direct_names (drop (i + 1) xs)) ≡ all
direct_named acc row xs i x all at is e =
    ap (λ r. with_names r (flat_map direct_names (drop (i + 1) xs))) is
    ∙ sym (with_names-append acc (direct_names x) (flat_map direct_names (drop (i + 1) xs)))
    ∙ ap (λ (l : List FileTree). with_names acc (flat_map direct_names l)) (sym (drop_at xs i x at)) ∙ e
