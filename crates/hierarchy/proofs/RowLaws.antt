-- Rows of names, each once.
use Rattle.std.proofs.Common.{◌≡◌, ℕ, zero, suc, ◌+◌, ◌-◌, ◌<◌, Bool, true, false, ◌||◌, cond, List, [], ◌∷◌, ◌++◌, length, map, drop, drop-cons, get_or, refl, sym, ap, ◌∙◌, append_assoc, arith, Option, Some, None, ⊎_elim}
use Rattle.std.specs.Prelude.{slice_get}
use Rattle.std.specs.Option.{option_and_then, option_map_or, option_to_list}
use Rattle.std.specs.List.{flat_map, filter_map, list_any}
use Rattle.std.proofs.lemmas.List.{append-nil, map-append}
use Rattle.std.proofs.lemmas.Grind.{flat_map-append}
use Rattle.std.proofs.lemmas.List.Folds.{list_any-append}
use Rattle.std.proofs.lemmas.Slice.Eq.{bytes_eq-Decides}
use Rattle.std.proofs.lemmas.Bool.{or_cases, or_left, or_right}
use Rattle.model.specs.Names.{Name, name_eq}
use Rattle.model.specs.Tree.{FileTree}
use Rattle.model.specs.Classes.{Program, name_of, classes_of, class_of, is_named}
use Rattle.hierarchy.specs.Places.{place_of}
use Rattle.hierarchy.specs.declared.rows.Above as declared_above
use Rattle.hierarchy.specs.declared.rows.Above.TheVariants as above
use Rattle.hierarchy.specs.Above.{with_name, with_names, each_once, directly_above, names_above, row_of, rows_of, next_rows}
use Rattle.hierarchy.proofs.Finding.{position_within}
use Rattle.hierarchy.proofs.SetLaws.{same_name, no_class, no_item, name_at_place}

-- ---- lists from a place on

pub drop_at : {A : Type 0} (xs : List A) (i : ℕ) (x : A) → slice_get xs i ≡ Some x → drop i xs ≡ x ∷ drop (i + 1) xs
drop_at [] i x e = absurd cc
drop_at (y ∷ xs) zero x e = let same : y ≡ x = cc in ap (λ z. z ∷ xs) same
drop_at (y ∷ xs) (suc i) x e = let more : suc i + 1 ≡ suc (i + 1) = omega arith in rw more (drop_at xs i x e)

pub drop_past : {A : Type 0} (xs : List A) (i : ℕ) → slice_get xs i ≡ None → drop i xs ≡ []
drop_past [] zero e = refl
drop_past [] (suc i) e = refl
drop_past (y ∷ xs) zero e = absurd cc
drop_past (y ∷ xs) (suc i) e = drop_past xs i e

pub drop_all : {A : Type 0} (xs : List A) (i : ℕ) → i ≡ length xs → drop i xs ≡ []
drop_all [] i e = rw e refl
drop_all (x ∷ xs) zero e = absurd (no e)
  where
    no : zero ≡ length (x ∷ xs) → ⊥
    no e = omega (arith, e)
drop_all (x ∷ xs) (suc i) e = drop_all xs i (omega (arith, e))

-- one more at the end of a list, one less of what is still to come
pub moved : {A B : Type 0} (f : A → B) (done : List B) (xs : List A) (i : ℕ) (x : A) (all : List B) → slice_get xs i ≡ Some x
    → done ++ map f (drop i xs) ≡ all → (done ++ f x ∷ []) ++ map f (drop (i + 1) xs) ≡ all
moved f done xs i x all at e = append_assoc done (f x ∷ []) (map f (drop (i + 1) xs)) ∙ ap (λ (l : List _). done ++ map f l) (sym (drop_at xs i x at)) ∙ e

-- ---- names, each once

pub any_map : {X : Type 0} (f : X → Name) (p : Name → Bool) (xs : List X) → list_any (λ x. p (f x)) xs ≡ list_any p (map f xs)
any_map f p [] = refl
any_map f p (x ∷ xs) = ap (λ b. p (f x) || b) (any_map f p xs)

pub with_names-append : (acc xs ys : List Name) → with_names acc (xs ++ ys) ≡ with_names (with_names acc xs) ys
with_names-append acc [] ys = refl
with_names-append acc (x ∷ xs) ys = with_names-append (with_name acc x) xs ys

-- a name that is there stays
kept : (acc : List Name) (x y : Name) → list_any (name_eq x) acc ≡ true → list_any (name_eq x) (with_name acc y) ≡ true
kept acc x y h = by (list_any (name_eq y) acc)
  where
    by : (b : Bool) → list_any (name_eq x) (cond b acc (acc ++ y ∷ [])) ≡ true
    by true = h
    by false = list_any-append (name_eq x) acc (y ∷ []) ∙ or_left _ _ h

pub name_eq_refl : (x : Name) → name_eq x x ≡ true
name_eq_refl x = (bytes_eq-Decides x x).1 refl

-- a name that was added is there
pub added : (acc : List Name) (y : Name) → list_any (name_eq y) (with_name acc y) ≡ true
added acc y = by (list_any (name_eq y) acc) refl
  where
    by : (b : Bool) → list_any (name_eq y) acc ≡ b → list_any (name_eq y) (cond b acc (acc ++ y ∷ [])) ≡ true
    by true h = h
    by false h = list_any-append (name_eq y) acc (y ∷ []) ∙ or_right (list_any (name_eq y) acc) _ (or_left _ _ (name_eq_refl y))

all_kept : (acc xs : List Name) (x : Name) → list_any (name_eq x) acc ≡ true → list_any (name_eq x) (with_names acc xs) ≡ true
all_kept acc [] x h = h
all_kept acc (y ∷ xs) x h = all_kept (with_name acc y) xs x (kept acc x y h)

pub all_added : (acc xs : List Name) (x : Name) → list_any (name_eq x) xs ≡ true → list_any (name_eq x) (with_names acc xs) ≡ true
all_added acc [] x h = absurd cc
all_added acc (y ∷ xs) x h = ⊎_elim here (λ later. all_added (with_name acc y) xs x later) (or_cases (name_eq x y) (list_any (name_eq x) xs) h)
  where
    here : name_eq x y ≡ true → list_any (name_eq x) (with_names (with_name acc y) xs) ≡ true
    here e = let same : y ≡ x = sym (same_name x y e) in all_kept (with_name acc y) xs x (rw same (added acc x))

-- a name after those of a list that are each once is a name after those of the list
with_last : (acc b : List Name) (x : Name) → with_names acc (with_name b x) ≡ with_name (with_names acc b) x
with_last acc b x = by (list_any (name_eq x) b) refl
  where
    by : (t : Bool) → list_any (name_eq x) b ≡ t → with_names acc (cond t b (b ++ x ∷ [])) ≡ with_name (with_names acc b) x
    by true h = rw (all_added acc b x h) refl
    by false h = with_names-append acc b (x ∷ [])

once_after : (acc b xs : List Name) → with_names acc (with_names b xs) ≡ with_names (with_names acc b) xs
once_after acc b [] = refl
once_after acc b (x ∷ xs) = once_after acc (with_name b x) xs ∙ ap (λ l. with_names l xs) (with_last acc b x)

pub once_again : (acc xs : List Name) → with_names acc (each_once xs) ≡ with_names acc xs
once_again acc xs = once_after acc [] xs

-- lists of which each is cut to what stands in it once
pub once_inside : (f g : Name → List Name) → ((x : Name) → f x ≡ each_once (g x)) → (acc xs : List Name)
    → with_names acc (flat_map (λ x. x ∷ f x) xs) ≡ with_names acc (flat_map (λ x. x ∷ g x) xs)
once_inside f g same acc [] = refl
once_inside f g same acc (x ∷ xs) =
    let rest = flat_map (λ y. y ∷ f y) xs in
    let others = flat_map (λ y. y ∷ g y) xs in
    with_names-append (with_name acc x) (f x) rest
    ∙ ap (λ l. with_names (with_names (with_name acc x) l) rest) (same x)
    ∙ ap (λ l. with_names l rest) (once_again (with_name acc x) (g x))
    ∙ once_inside f g same (with_names (with_name acc x) (g x)) xs
    ∙ sym (with_names-append (with_name acc x) (g x) others)

-- ---- rows

pub next_of_none : (files : Program) (kind : declared_above.Above) (name : Name) → class_of files name ≡ None
    → directly_above files kind name ≡ []
next_of_none files above.Interfaces name e = rw e refl
next_of_none files above.Supertypes name e = rw e refl

pub above_none : (next : Name → List Name) (n : ℕ) (name : Name) → next name ≡ [] → names_above next n name ≡ []
above_none next zero name e = refl
above_none next (suc n) name e = ap (λ l. flat_map (λ i. i ∷ names_above next n i) l) e

pub get_map : {A B : Type 0} (f : A → B) (xs : List A) (i : ℕ) (x : A) → slice_get xs i ≡ Some x → slice_get (map f xs) i ≡ Some (f x)
get_map f [] i x e = absurd cc
get_map f (y ∷ xs) zero x e = let same : y ≡ x = cc in ap (λ z. Some (f z)) same
get_map f (y ∷ xs) (suc i) x e = get_map f xs i x e

-- the row of a name has what is above it
pub row_is : (files : Program) (kind : declared_above.Above) (n : ℕ) (name : Name)
    → row_of files (rows_of files kind n) name ≡ each_once (names_above (directly_above files kind) n name)
unfolding rows_of
row_is files kind n name = at (place_of files name) refl
  where
    at : (o : Option ℕ) → place_of files name ≡ o
        → option_map_or (λ row. row) (option_and_then (slice_get (rows_of files kind n)) o) []
        ≡ each_once (names_above (directly_above files kind) n name)
    at None e = ap each_once (sym (above_none (directly_above files kind) n name (next_of_none files kind name (no_class files name e))))
    at (Some k) e = there (slice_get (classes_of files) k) refl
      where
        there : (c : Option FileTree) → slice_get (classes_of files) k ≡ c
            → option_map_or (λ row. row) (slice_get (rows_of files kind n) k) []
            ≡ each_once (names_above (directly_above files kind) n name)
        there None g = absurd (no_item (classes_of files) k (position_within (is_named name) (classes_of files) k e) g)
        there (Some file) g =
            ap (λ (o : Option (List Name)). option_map_or (λ row. row) o []) (get_map (λ (file : FileTree). each_once (names_above (directly_above files kind) n (name_of file))) (classes_of files) k file g)
            ∙ ap (λ m. each_once (names_above (directly_above files kind) n m)) (name_at_place files name k file e g)

pub map_same : {A B : Type 0} (f g : A → B) → ((x : A) → f x ≡ g x) → (xs : List A) → map f xs ≡ map g xs
map_same f g same [] = refl
map_same f g same (x ∷ xs) = rw (same x, map_same f g same xs) refl

pub rows_step : (files : Program) (kind : declared_above.Above) (n : ℕ)
    → next_rows files kind (rows_of files kind n) ≡ rows_of files kind (suc n)
unfolding rows_of
rows_step files kind n = map_same _ _ (λ file. once_inside (row_of files (rows_of files kind n)) (names_above (directly_above files kind) n) (row_is files kind n) [] (directly_above files kind (name_of file))) (classes_of files)

-- rows that a step does not change are the rows within any more steps
pub settled : (files : Program) (kind : declared_above.Above) (n m : ℕ)
    → next_rows files kind (rows_of files kind n) ≡ rows_of files kind n → rows_of files kind (m + n) ≡ rows_of files kind n
settled files kind n zero h = ap (rows_of files kind) (omega arith)
settled files kind n (suc m) h =
    let more : suc m + n ≡ suc (m + n) = omega arith in
    ap (rows_of files kind) more ∙ sym (rows_step files kind (m + n)) ∙ ap (next_rows files kind) (settled files kind n m h) ∙ h

-- ---- lists that are the same from a place on

pub from_here : {A : Type 0} (xs ys : List A) (i : ℕ) (x y : A) → slice_get xs i ≡ Some x → slice_get ys i ≡ Some y → x ≡ y
    → drop (i + 1) xs ≡ drop (i + 1) ys → drop i xs ≡ drop i ys
from_here xs ys i x y at there e h = drop_at xs i x at ∙ ap (λ z. z ∷ drop (i + 1) xs) e ∙ ap (λ l. y ∷ l) h ∙ sym (drop_at ys i y there)

pub at_end : {A : Type 0} (xs ys : List A) (i : ℕ) → i ≡ length xs → length xs ≡ length ys → drop i xs ≡ drop i ys
at_end xs ys i e h = drop_all xs i e ∙ sym (drop_all ys i (e ∙ h))

-- a list that is what another is made into, from a place on
pub made_here : {A B : Type 0} (f : A → B) (xs : List A) (made : List B) (i : ℕ) (x : A) (y : B) → slice_get xs i ≡ Some x
    → slice_get made i ≡ Some y → f x ≡ y → map f (drop (i + 1) xs) ≡ drop (i + 1) made → map f (drop i xs) ≡ drop i made
made_here f xs made i x y at there e rest = ap (map f) (drop_at xs i x at) ∙ ap (λ z. z ∷ map f (drop (i + 1) xs)) e ∙ ap (λ l. y ∷ l) rest ∙ sym (drop_at made i y there)

-- ---- one name more among keys

pub pushed : {K : Type 0} (items : K → Name) (keys : List K) (key : K) (names : List Name) (name : Name) → map items keys ≡ names
    → items key ≡ name → list_any (name_eq name) names ≡ false
    → map items (cond (list_any (λ k. name_eq (items key) (items k)) keys) keys (keys ++ key ∷ [])) ≡ with_name names name
pushed items keys key names name view is new =
    let out : list_any (λ k. name_eq (items key) (items k)) keys ≡ false = any_map items (name_eq (items key)) keys ∙ ap (list_any (name_eq (items key))) view ∙ ap (λ n. list_any (name_eq n) names) is ∙ new in
    ap (λ b. map items (cond b keys (keys ++ key ∷ []))) out
    ∙ map-append items keys (key ∷ [])
    ∙ ap (λ (l : List Name). l ++ items key ∷ []) view
    ∙ ap (λ (n : Name). names ++ n ∷ []) is
    ∙ ap (λ b. cond b names (names ++ name ∷ [])) (sym new)

-- ---- steps of the walks that add names

pub name_added : (acc rest names : List Name) (i : ℕ) (name : Name) (row all : List Name) → slice_get names i ≡ Some name
    → row ≡ with_name acc name → with_names acc (drop i names) ≡ all → with_names row (drop (i + 1) names) ≡ all
name_added acc rest names i name row all at is e = ap (λ r. with_names r (drop (i + 1) names)) is ∙ ap (with_names acc) (sym (drop_at names i name at)) ∙ e

pub row_pushed : {A B : Type 0} (f : A → B) (done new : List B) (row : B) (xs : List A) (i : ℕ) (x : A) (all : List B)
    → slice_get xs i ≡ Some x → row ≡ f x → new ≡ done ++ row ∷ [] → done ++ map f (drop i xs) ≡ all → new ++ map f (drop (i + 1) xs) ≡ all
row_pushed f done new row xs i x all at is pushed e =
    ap (λ (l : List _). l ++ map f (drop (i + 1) xs)) (pushed ∙ ap (λ r. done ++ r ∷ []) is) ∙ moved f done xs i x all at e

pub all_pushed : {A B : Type 0} (f : A → B) (done all : List B) (rest : List A) → rest ≡ [] → done ++ map f rest ≡ all → done ≡ all
all_pushed f done all rest none e = sym (append-nil done) ∙ ap (λ (l : List _). done ++ map f l) (sym none) ∙ e

pub index_added : (g : Name → List Name) (h : ℕ → Option Name) (acc row : List Name) (xs : List ℕ) (i : ℕ) (all : List Name)
    → i < length xs → row ≡ with_names acc (flat_map g (option_to_list (h (get_or xs i 0))))
    → with_names acc (flat_map g (filter_map h (drop i xs))) ≡ all → with_names row (flat_map g (filter_map h (drop (i + 1) xs))) ≡ all
index_added g h acc row xs i all lt is e =
    ap (λ r. with_names r (flat_map g (filter_map h (drop (i + 1) xs)))) is
    ∙ by (h (get_or xs i 0)) refl
    ∙ ap (λ (l : List ℕ). with_names acc (flat_map g (filter_map h l))) (sym here)
    ∙ e
  where
    here : drop i xs ≡ get_or xs i 0 ∷ drop (i + 1) xs
    here = let more : suc i ≡ i + 1 = omega arith in drop-cons xs i 0 lt ∙ ap (λ k. get_or xs i 0 ∷ drop k xs) more

    by : (o : Option Name) → h (get_or xs i 0) ≡ o
        → with_names (with_names acc (flat_map g (option_to_list o))) (flat_map g (filter_map h (drop (i + 1) xs)))
        ≡ with_names acc (flat_map g (filter_map h (get_or xs i 0 ∷ drop (i + 1) xs)))
    by None is = rw is refl
    by (Some name) is =
        let rest = filter_map h (drop (i + 1) xs) in
        rw is (ap (λ (l : List Name). with_names (with_names acc l) (flat_map g rest)) (append-nil (g name)) ∙ sym (with_names-append acc (g name) (flat_map g rest)))

pub both_added : (g : Name → List Name) (acc first row xs ys : List Name) → first ≡ with_names acc (flat_map g xs)
    → row ≡ with_names first (flat_map g ys) → row ≡ with_names acc (flat_map g (xs ++ ys))
both_added g acc first row xs ys one two =
    two ∙ ap (λ l. with_names l (flat_map g ys)) one ∙ sym (with_names-append acc (flat_map g xs) (flat_map g ys)) ∙ ap (with_names acc) (sym (flat_map-append g xs ys))

-- where a step changes nothing the rows are those within any more steps
pub settled_at : (files : Program) (kind : declared_above.Above) (k n : ℕ) (rows next : List (List Name)) → k < n
    → rows ≡ rows_of files kind k → next ≡ next_rows files kind rows → rows ≡ next → rows ≡ rows_of files kind n
settled_at files kind k n rows next lt is step same =
    let still : next_rows files kind (rows_of files kind k) ≡ rows_of files kind k = ap (next_rows files kind) (sym is) ∙ sym step ∙ sym same ∙ is in
    let more : (n - k) + k ≡ n = omega arith in
    is ∙ sym (settled files kind k (n - k) still) ∙ ap (rows_of files kind) more

pub one_step_more : (files : Program) (kind : declared_above.Above) (k : ℕ) (rows next : List (List Name)) → rows ≡ rows_of files kind k
    → next ≡ next_rows files kind rows → next ≡ rows_of files kind (k + 1)
one_step_more files kind k rows next is step =
    let more : suc k ≡ k + 1 = omega arith in
    step ∙ ap (next_rows files kind) is ∙ rows_step files kind k ∙ ap (rows_of files kind) more
