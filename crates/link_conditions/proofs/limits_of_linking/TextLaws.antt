-- Texts, each once.
use Rattle.std.proofs.Common.{◌≡◌, ℕ, ◌+◌, ◌≤◌, Bool, true, false, not, ◌||◌, cond, List, [], ◌∷◌, ◌++◌, length, map, refl, sym, ap, ◌∙◌, append_assoc, length-append, arith, Option, Some, None}
use Rattle.std.specs.Prelude.{nat_lt}
use Rattle.std.specs.Option.{option_to_list}
use Rattle.std.specs.List.{filter, filter_map, flat_map, list_any, cons_option}
use Rattle.std.proofs.lemmas.List.{append-nil, map-append}
use Rattle.std.proofs.lemmas.Grind.{flat_map-append}
use Rattle.std.proofs.lemmas.Bool.Decides.{nat_tests}
use Rattle.model.specs.Names.{Name, name_eq}
use Rattle.model.specs.Tree.{Entry, FileTree}
use Rattle.model.specs.Pool.{string_of}
use Rattle.model.specs.Classes.{Program}
use Rattle.model.specs.StringConstants.{is_other_text, distinct, texts_in, file_texts}
use Rattle.model.specs.Linkable.{stands, TooLarge}
use Rattle.hierarchy.proofs.Names.{name_eq_sym}
use Rattle.hierarchy.proofs.SetLaws.{same_name}
use Rattle.link_conditions.specs.limits_of_linking.Texts.{with_text, with_texts}
use Rattle.hierarchy.proofs.RowLaws.{any_map}

-- ---- keys of a set

-- one text more among keys
pub pushed : {K : Type 0} (items : K → Name) (keys : List K) (key : K) (texts : List Name) (text : Name) → map items keys ≡ texts
    → items key ≡ text → list_any (name_eq text) texts ≡ false
    → map items (cond (list_any (λ k. name_eq (items key) (items k)) keys) keys (keys ++ key ∷ [])) ≡ with_text texts text
pushed items keys key texts text view is new =
    let out : list_any (λ k. name_eq (items key) (items k)) keys ≡ false = any_map items (name_eq (items key)) keys ∙ ap (list_any (name_eq (items key))) view ∙ ap (λ n. list_any (name_eq n) texts) is ∙ new in
    ap (λ b. map items (cond b keys (keys ++ key ∷ []))) out
    ∙ map-append items keys (key ∷ [])
    ∙ ap (λ (l : List Name). l ++ items key ∷ []) view
    ∙ ap (λ (n : Name). texts ++ n ∷ []) is
    ∙ ap (λ b. cond b texts (texts ++ text ∷ [])) (sym new)

-- ---- the texts of string constants

pub with_texts-append : (acc xs ys : List Name) → with_texts acc (xs ++ ys) ≡ with_texts (with_texts acc xs) ys
with_texts-append acc [] ys = refl
with_texts-append acc (x ∷ xs) ys = with_texts-append (with_text acc x) xs ys

any_filter : (t x : Name) (ds : List Name) → name_eq t x ≡ false
    → list_any (name_eq t) (filter (is_other_text x) ds) ≡ list_any (name_eq t) ds
any_filter t x [] h = refl
any_filter t x (d ∷ ds) h = by (any_filter t x ds h) (name_eq x d) refl
  where
    by : list_any (name_eq t) (filter (is_other_text x) ds) ≡ list_any (name_eq t) ds → (b : Bool) → name_eq x d ≡ b
        → list_any (name_eq t) (cond (not b) (d ∷ filter (is_other_text x) ds) (filter (is_other_text x) ds))
        ≡ (name_eq t d || list_any (name_eq t) ds)
    by rest true e = let same : name_eq t d ≡ false = ap (name_eq t) (sym (same_name x d e)) ∙ h in rw same rest
    by rest false e = ap (λ b. name_eq t d || b) rest

filter-append : (p : Name → Bool) (xs ys : List Name) → filter p (xs ++ ys) ≡ filter p xs ++ filter p ys
filter-append p [] ys = refl
filter-append p (x ∷ xs) ys = by (filter-append p xs ys) (p x)
  where
    by : filter p (xs ++ ys) ≡ filter p xs ++ filter p ys → (b : Bool)
        → cond b (x ∷ filter p (xs ++ ys)) (filter p (xs ++ ys)) ≡ cond b (x ∷ filter p xs) (filter p xs) ++ filter p ys
    by rest true = ap (λ l. x ∷ l) rest
    by rest false = rest

-- a text more behind texts that differ from the first
one_more : (x t : Name) (ds : List Name) → x ∷ filter (is_other_text x) (with_text ds t) ≡ with_text (x ∷ filter (is_other_text x) ds) t
one_more x t ds = by (name_eq t x) (list_any (name_eq t) ds) refl refl
  where
    rest : List Name
    rest = filter (is_other_text x) ds

    last : (b : Bool) → name_eq t x ≡ b → filter (is_other_text x) (t ∷ []) ≡ cond (not b) (t ∷ []) []
    last b e = ap (λ c. cond (not c) (t ∷ []) []) (name_eq_sym x t ∙ e)

    by : (b c : Bool) → name_eq t x ≡ b → list_any (name_eq t) ds ≡ c
        → x ∷ filter (is_other_text x) (cond c ds (ds ++ t ∷ [])) ≡ cond (b || list_any (name_eq t) rest) (x ∷ rest) ((x ∷ rest) ++ t ∷ [])
    by true true e h = refl
    by true false e h = ap (λ l. x ∷ l) (filter-append (is_other_text x) ds (t ∷ []) ∙ ap (λ (l : List Name). rest ++ l) (last true e) ∙ append-nil rest)
    by false true e h = rw (any_filter t x ds e ∙ h) refl
    by false false e h = rw (any_filter t x ds e ∙ h) (ap (λ l. x ∷ l) (filter-append (is_other_text x) ds (t ∷ []) ∙ ap (λ (l : List Name). rest ++ l) (last false e)))

distinct_push : (xs : List Name) (t : Name) → distinct (xs ++ t ∷ []) ≡ with_text (distinct xs) t
distinct_push [] t = refl
distinct_push (x ∷ xs) t = ap (λ l. x ∷ filter (is_other_text x) l) (distinct_push xs t) ∙ one_more x t (distinct xs)

pub distinct-append : (xs ys : List Name) → distinct (xs ++ ys) ≡ with_texts (distinct xs) ys
distinct-append xs [] = ap distinct (append-nil xs)
distinct-append xs (y ∷ ys) =
    ap distinct (sym (append_assoc xs (y ∷ []) ys)) ∙ distinct-append (xs ++ y ∷ []) ys ∙ ap (λ l. with_texts l ys) (distinct_push xs y)

-- those of one file more
pub file_texts_more : (done : Program) (file : FileTree)
    → file_texts (done ++ file ∷ []) ≡ with_texts (file_texts done) (texts_in file)
file_texts_more done file =
    ap distinct (flat_map-append texts_in done (file ∷ []) ∙ ap (λ (l : List Name). flat_map texts_in done ++ l) (append-nil (texts_in file)))
    ∙ distinct-append (flat_map texts_in done) (texts_in file)

-- the text of one entry more
pub text_added : (pool : List Entry) (acc row : List Name) (e : Entry) (rest : List Entry) (all : List Name)
    → row ≡ with_texts acc (option_to_list (string_of pool e))
    → with_texts acc (filter_map (string_of pool) (e ∷ rest)) ≡ all → with_texts row (filter_map (string_of pool) rest) ≡ all
text_added pool acc row e rest all is h = ap (λ l. with_texts l (filter_map (string_of pool) rest)) is ∙ by (string_of pool e) ∙ h
  where
    by : (o : Option Name) → with_texts (with_texts acc (option_to_list o)) (filter_map (string_of pool) rest)
        ≡ with_texts acc (cons_option o (filter_map (string_of pool) rest))
    by None = refl
    by (Some t) = refl

-- ---- how many there are at most

length-filter_map-le : {A B : Type 0} (f : A → Option B) (xs : List A) → length (filter_map f xs) ≤ length xs
length-filter_map-le f [] = omega arith
length-filter_map-le {A} {B} f (x ∷ xs) = by (f x) (length-filter_map-le f xs)
  where
    by : (o : Option B) → length (filter_map f xs) ≤ length xs → length (cons_option o (filter_map f xs)) ≤ length (x ∷ xs)
    by None h = omega arith
    by (Some y) h = omega arith

-- a file has no more texts than entries in its constant pool
pub texts_more : (done : Program) (file : FileTree)
    → length (flat_map texts_in (done ++ file ∷ [])) ≤ length (flat_map texts_in done) + length file.pool
texts_more done file =
    let one : flat_map texts_in (done ++ file ∷ []) ≡ flat_map texts_in done ++ texts_in file = flat_map-append texts_in done (file ∷ []) ∙ ap (λ (l : List Name). flat_map texts_in done ++ l) (append-nil (texts_in file)) in
    let all : length (flat_map texts_in (done ++ file ∷ [])) ≡ length (flat_map texts_in done) + length (texts_in file) = ap length one ∙ length-append (flat_map texts_in done) (texts_in file) in
    omega (arith, all, length-filter_map-le (string_of file.pool) file.pool)

length-filter-le : (p : Name → Bool) (xs : List Name) → length (filter p xs) ≤ length xs
length-filter-le p [] = omega arith
length-filter-le p (x ∷ xs) = by (p x) (length-filter-le p xs)
  where
    by : (b : Bool) → length (filter p xs) ≤ length xs → length (cond b (x ∷ filter p xs) (filter p xs)) ≤ length (x ∷ xs)
    by true h = omega arith
    by false h = omega arith

pub length-distinct-le : (xs : List Name) → length (distinct xs) ≤ length xs
length-distinct-le [] = omega arith
length-distinct-le (x ∷ xs) = omega (arith, length-distinct-le xs, length-filter-le (is_other_text x) (distinct xs))

nat_not_lt : (m n : ℕ) → n ≤ m → nat_lt m n ≡ false
nat_not_lt m n h = grind (arith, nat_tests)

pub not_too_large : (trees : Program) → length trees ≤ 65000 → length (flat_map texts_in trees) ≤ 200000000 → stands trees TooLarge ≡ false
not_too_large trees few texts =
    let files : nat_lt 65000 (length trees) ≡ false = nat_not_lt 65000 (length trees) few in
    let strings : nat_lt 200000000 (length (file_texts trees)) ≡ false = nat_not_lt 200000000 (length (file_texts trees)) (omega (arith, length-distinct-le (flat_map texts_in trees), texts)) in
    rw (files, strings) refl
