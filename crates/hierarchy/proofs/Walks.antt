-- Walks over rows of names, and over the superclasses of a class.
use Rattle.std.proofs.Common.{◌≡◌, ℕ, zero, suc, ◌+◌, ◌-◌, ◌<◌, Bool, true, false, ◌||◌, cond, List, [], ◌∷◌, ◌++◌, length, drop, drop-cons, get_or, refl, sym, ap, ◌∙◌, arith, Option, Some, None, ⊎_elim}
use Rattle.std.specs.Option.{option_and_then, option_map_or, option_or, option_to_list}
use Rattle.std.specs.List.{flat_map, filter_map, cons_option, list_any}
use Rattle.std.proofs.lemmas.List.{append-nil}
use Rattle.std.proofs.lemmas.List.Folds.{list_any-append}
use Rattle.model.specs.Names.{Name, name_eq, Member}
use Rattle.model.specs.Tree.{FileTree}
use Rattle.model.specs.Classes.{Program, class_of, super_name_of, interface_names, classes_of, superclass_of, superinterfaces_of, interfaces_from, interfaces_above, lineage_of}
use Rattle.model.specs.Hierarchy.{is_above, direct_supertypes}
use Rattle.model.specs.BuiltIn.{built_in_classes}
use Rattle.model.specs.Lookup.{first_found, field_from, field_in_class, find_field}
use Rattle.std.specs.Prelude.{slice_get}
use Rattle.std.proofs.lemmas.Bool.{or_cases}
use mathlib.Core.Bool.{or-false, or_comm}
use Rattle.hierarchy.proofs.RowLaws.{drop_at}
use Rattle.hierarchy.specs.declared.rows.Above.TheVariants as above
use Rattle.hierarchy.specs.Above.{leads_to, with_name, with_names, each_once, directly_above, names_above}
use Rattle.hierarchy.proofs.Names.{name_eq_sym}
use Rattle.hierarchy.proofs.SetLaws.{same_name}
use Rattle.hierarchy.proofs.Chains.{lineage_step}

-- ---- whether a name is among names that are each once

or_assoc : (a b c : Bool) → ((a || b) || c) ≡ (a || (b || c))
or_assoc true b c = refl
or_assoc false b c = refl

or_again : (a b : Bool) → ((a || b) || a) ≡ (a || b)
or_again true b = refl
or_again false true = refl
or_again false false = refl

any_in : (p : Name → Bool) (names : List Name) (x : Name) → list_any (name_eq x) names ≡ true → (list_any p names || p x) ≡ list_any p names
any_in p [] x h = absurd cc
any_in p (y ∷ names) x h = ⊎_elim here (λ e. later (any_in p names x e)) (or_cases (name_eq x y) (list_any (name_eq x) names) h)
  where
    here : name_eq x y ≡ true → ((p y || list_any p names) || p x) ≡ (p y || list_any p names)
    here e = ap (λ z. (p y || list_any p names) || p z) (same_name x y e) ∙ or_again (p y) (list_any p names)

    later : (list_any p names || p x) ≡ list_any p names → ((p y || list_any p names) || p x) ≡ (p y || list_any p names)
    later e = or_assoc (p y) (list_any p names) (p x) ∙ ap (λ b. p y || b) e

any_after : (p : Name → Bool) (acc xs : List Name) → list_any p (with_names acc xs) ≡ (list_any p acc || list_any p xs)
any_after p acc [] = sym (or-false (list_any p acc))
any_after p acc (x ∷ xs) = any_after p (with_name acc x) xs ∙ by (list_any (name_eq x) acc) refl
  where
    by : (b : Bool) → list_any (name_eq x) acc ≡ b
        → (list_any p (cond b acc (acc ++ x ∷ [])) || list_any p xs) ≡ (list_any p acc || (p x || list_any p xs))
    by true h = ap (λ b. b || list_any p xs) (sym (any_in p acc x h)) ∙ or_assoc (list_any p acc) (p x) (list_any p xs)
    by false h = ap (λ b. b || list_any p xs) (list_any-append p acc (x ∷ []) ∙ ap (λ b. list_any p acc || b) (or-false (p x))) ∙ or_assoc (list_any p acc) (p x) (list_any p xs)

pub any_once : (p : Name → Bool) (xs : List Name) → list_any p (each_once xs) ≡ list_any p xs
any_once p xs = any_after p [] xs

pub any_flip : (d : Name) (xs : List Name) → list_any (name_eq d) xs ≡ list_any (λ i. name_eq i d) xs
any_flip d [] = refl
any_flip d (x ∷ xs) = rw (name_eq_sym d x, any_flip d xs) refl

-- ---- what is found first in them

pub or_else_assoc : (a b c : Option Member) → option_or (option_or a b) c ≡ option_or a (option_or b c)
or_else_assoc None b c = refl
or_else_assoc (Some m) b c = refl

pub or_else_none : (a : Option Member) → option_or a None ≡ a
or_else_none None = refl
or_else_none (Some m) = refl

or_else_again : (a b : Option Member) → option_or (option_or a b) a ≡ option_or a b
or_else_again None b = or_else_none b
or_else_again (Some m) b = refl

found_in : (f : Name → Option Member) (names : List Name) (x : Name) → list_any (name_eq x) names ≡ true
    → option_or (first_found f names) (f x) ≡ first_found f names
found_in f [] x h = absurd cc
found_in f (y ∷ names) x h = ⊎_elim here (λ e. later (found_in f names x e)) (or_cases (name_eq x y) (list_any (name_eq x) names) h)
  where
    here : name_eq x y ≡ true → option_or (option_or (f y) (first_found f names)) (f x) ≡ option_or (f y) (first_found f names)
    here e = ap (λ z. option_or (option_or (f y) (first_found f names)) (f z)) (same_name x y e) ∙ or_else_again (f y) (first_found f names)

    later : option_or (first_found f names) (f x) ≡ first_found f names
        → option_or (option_or (f y) (first_found f names)) (f x) ≡ option_or (f y) (first_found f names)
    later e = or_else_assoc (f y) (first_found f names) (f x) ∙ ap (option_or (f y)) e

pub found-append : (f : Name → Option Member) (xs ys : List Name)
    → first_found f (xs ++ ys) ≡ option_or (first_found f xs) (first_found f ys)
found-append f [] ys = refl
found-append f (x ∷ xs) ys = ap (option_or (f x)) (found-append f xs ys) ∙ sym (or_else_assoc (f x) (first_found f xs) (first_found f ys))

found_after : (f : Name → Option Member) (acc xs : List Name)
    → first_found f (with_names acc xs) ≡ option_or (first_found f acc) (first_found f xs)
found_after f acc [] = sym (or_else_none (first_found f acc))
found_after f acc (x ∷ xs) = found_after f (with_name acc x) xs ∙ by (list_any (name_eq x) acc) refl
  where
    by : (b : Bool) → list_any (name_eq x) acc ≡ b
        → option_or (first_found f (cond b acc (acc ++ x ∷ []))) (first_found f xs)
        ≡ option_or (first_found f acc) (option_or (f x) (first_found f xs))
    by true h = ap (λ o. option_or o (first_found f xs)) (sym (found_in f acc x h)) ∙ or_else_assoc (first_found f acc) (f x) (first_found f xs)
    by false h =
        ap (λ o. option_or o (first_found f xs)) (found-append f acc (x ∷ []) ∙ ap (option_or (first_found f acc)) (or_else_none (f x)))
        ∙ or_else_assoc (first_found f acc) (f x) (first_found f xs)

pub found_once : (f : Name → Option Member) (xs : List Name) → first_found f (each_once xs) ≡ first_found f xs
found_once f xs = found_after f [] xs

-- ---- superinterfaces

same_flat_map : (f g : Name → List Name) → ((x : Name) → f x ≡ g x) → (xs : List Name) → flat_map f xs ≡ flat_map g xs
same_flat_map f g same [] = refl
same_flat_map f g same (x ∷ xs) = rw (same x, same_flat_map f g same xs) refl

with_above : (files : Program) (n : ℕ) (name : Name)
    → name ∷ names_above (directly_above files above.Interfaces) n name ≡ interfaces_from files n name
with_above files zero name = refl
with_above files (suc n) name = ap (λ l. name ∷ l) (same_flat_map (λ i. i ∷ names_above (directly_above files above.Interfaces) n i) (interfaces_from files n) (with_above files n) (superinterfaces_of files name))

pub above_is : (files : Program) (name : Name)
    → names_above (directly_above files above.Interfaces) (suc (length (classes_of files))) name ≡ interfaces_above files name
above_is files name = same_flat_map (λ i. i ∷ names_above (directly_above files above.Interfaces) (length (classes_of files)) i) (interfaces_from files (length (classes_of files))) (with_above files (length (classes_of files))) (superinterfaces_of files name)

-- ---- superclasses, each with what is above it

pub lineage_next : (files : Program) (g : Name → List Name) (n i : ℕ) (c s : Name) → i < n → superclass_of files c ≡ Some s
    → flat_map g (lineage_of files (n - i) c) ≡ g c ++ flat_map g (lineage_of files (n - (i + 1)) s)
lineage_next files g n i c s lt e = rw (lineage_step files n i c lt, e) refl

pub lineage_last : (files : Program) (g : Name → List Name) (n i : ℕ) (c : Name) → i < n → superclass_of files c ≡ None
    → flat_map g (lineage_of files (n - i) c) ≡ g c
lineage_last files g n i c lt e = rw (lineage_step files n i c lt, e) (append-nil (g c))

pub lineage_any : (files : Program) (g : Name → List Name) (p : Name → Bool) (n i : ℕ) (c s : Name) → i < n
    → superclass_of files c ≡ Some s → list_any p (g c) ≡ false
    → list_any p (flat_map g (lineage_of files (n - i) c)) ≡ list_any p (flat_map g (lineage_of files (n - (i + 1)) s))
lineage_any files g p n i c s lt e none = rw (lineage_next files g n i c s lt e, list_any-append p (g c) (flat_map g (lineage_of files (n - (i + 1)) s)), none) refl

pub lineage_any_here : (files : Program) (g : Name → List Name) (p : Name → Bool) (n i : ℕ) (c : Name) → i < n → list_any p (g c) ≡ true
    → list_any p (flat_map g (lineage_of files (n - i) c)) ≡ true
lineage_any_here files g p n i c lt h =
    let rest = option_map_or (λ s. lineage_of files (n - (i + 1)) s) (superclass_of files c) [] in
    rw (lineage_step files n i c lt, list_any-append p (g c) (flat_map g rest), h) refl

pub lineage_found : (files : Program) (g : Name → List Name) (f : Name → Option Member) (n i : ℕ) (c s : Name) → i < n
    → superclass_of files c ≡ Some s → first_found f (g c) ≡ None
    → first_found f (flat_map g (lineage_of files (n - i) c)) ≡ first_found f (flat_map g (lineage_of files (n - (i + 1)) s))
lineage_found files g f n i c s lt e none = rw (lineage_next files g n i c s lt e, found-append f (g c) (flat_map g (lineage_of files (n - (i + 1)) s)), none) refl

pub lineage_found_here : (files : Program) (g : Name → List Name) (f : Name → Option Member) (n i : ℕ) (c : Name) (m : Member) → i < n
    → first_found f (g c) ≡ Some m → first_found f (flat_map g (lineage_of files (n - i) c)) ≡ Some m
lineage_found_here files g f n i c m lt h =
    let rest = option_map_or (λ s. lineage_of files (n - (i + 1)) s) (superclass_of files c) [] in
    rw (lineage_step files n i c lt, found-append f (g c) (flat_map g rest), h) refl

-- ---- members among the names of a row

pub row_found : (f : Name → Option Member) (names : List Name) (i : ℕ) (x : Name) (m : Member) (all : Option Member)
    → slice_get names i ≡ Some x → Some m ≡ f x → first_found f (drop i names) ≡ all → Some m ≡ all
row_found f names i x m all at is e = ap (λ o. option_or o (first_found f (drop (i + 1) names))) is ∙ ap (first_found f) (sym (drop_at names i x at)) ∙ e

pub row_next : (f : Name → Option Member) (names : List Name) (i : ℕ) (x : Name) (all : Option Member) → slice_get names i ≡ Some x
    → None ≡ f x → first_found f (drop i names) ≡ all → first_found f (drop (i + 1) names) ≡ all
row_next f names i x all at is e = ap (λ o. option_or o (first_found f (drop (i + 1) names))) is ∙ ap (first_found f) (sym (drop_at names i x at)) ∙ e

-- ---- fields

-- what is found from a class on is found in the class, or in what is above it
pub field_above : (files : Program) (n : ℕ) (m : Member) (class : Name)
    → field_from files (suc n) m class ≡ option_or (field_in_class files m class)
    (first_found (field_in_class files m) (names_above (directly_above files above.Supertypes) n class))
field_above files zero m class = ap (option_or (field_in_class files m class)) (nothing (superinterfaces_of files class) (superclass_of files class))
  where
    nothing : (names : List Name) (o : Option Name) → option_or (first_found (λ i. None) names) (option_and_then (λ s. None) o) ≡ None
    nothing [] None = refl
    nothing [] (Some s) = refl
    nothing (x ∷ names) o = nothing names o
field_above files (suc n) m class = ap (option_or (field_in_class files m class)) (each (superinterfaces_of files class) (superclass_of files class) (field_above files n m))
  where
    each : (names : List Name) (o : Option Name)
        → ((c : Name) → field_from files (suc n) m c
        ≡ option_or (field_in_class files m c) (first_found (field_in_class files m)
        (names_above (directly_above files above.Supertypes) n c)))
        → option_or (first_found (λ i. field_from files (suc n) m i) names) (option_and_then (λ s. field_from files (suc n) m s) o)
        ≡ first_found (field_in_class files m) (flat_map (λ i. i ∷ names_above (directly_above files above.Supertypes) n i) (names
        ++ option_to_list o))
    each [] None h = refl
    each [] (Some s) h = h s ∙ ap (first_found (field_in_class files m)) (sym (append-nil (s ∷ names_above (directly_above files above.Supertypes) n s)))
    each (x ∷ names) o h =
        or_else_assoc (field_from files (suc n) m x) (first_found (λ i. field_from files (suc n) m i) names) (option_and_then (λ s. field_from files (suc n) m s) o)
        ∙ ap (option_or (field_from files (suc n) m x)) (each names o h)
        ∙ ap (λ a. option_or a (first_found (field_in_class files m) (flat_map (λ i. i ∷ names_above (directly_above files above.Supertypes) n i) (names ++ option_to_list o)))) (h x)
        ∙ sym (found-append (field_in_class files m) (x ∷ names_above (directly_above files above.Supertypes) n x) (flat_map (λ i. i ∷ names_above (directly_above files above.Supertypes) n i) (names ++ option_to_list o)))

one_and_rest : (n : ℕ) → 0 < n → n ≡ suc (n - 1)
one_and_rest n h = omega arith

-- there are classes
pub some_class : (files : Program) → 0 < length (classes_of files)
unfolding built_in_classes
some_class files = omega arith

pub class_count : (files : Program) → length (classes_of files) ≡ suc (length (classes_of files) - 1)
class_count files = one_and_rest (length (classes_of files)) (some_class files)

pub find_field_is : (files : Program) (m : Member)
    → find_field files m ≡ option_or (field_in_class files m m.class)
    (first_found (field_in_class files m) (names_above (directly_above files above.Supertypes) (length (classes_of files) - 1) m.class))
find_field_is files m = ap (λ n. field_from files n m m.class) (class_count files) ∙ field_above files (length (classes_of files) - 1) m m.class

-- ---- what is above a class

any_flat : (p : Name → Bool) (g : Name → List Name) (xs : List Name)
    → list_any p (flat_map (λ i. i ∷ g i) xs) ≡ list_any (λ i. p i || list_any p (g i)) xs
any_flat p g [] = refl
any_flat p g (x ∷ xs) = list_any-append p (x ∷ g x) (flat_map (λ i. i ∷ g i) xs) ∙ ap (λ b. (p x || list_any p (g x)) || b) (any_flat p g xs)

any_same : (p q : Name → Bool) → ((x : Name) → p x ≡ q x) → (xs : List Name) → list_any p xs ≡ list_any q xs
any_same p q same [] = refl
any_same p q same (x ∷ xs) = rw (same x, any_same p q same xs) refl

any_swap : (q : Name → Bool) (xs ys : List Name) → list_any q (xs ++ ys) ≡ list_any q (ys ++ xs)
any_swap q xs ys = list_any-append q xs ys ∙ or_comm (list_any q xs) (list_any q ys) ∙ sym (list_any-append q ys xs)

pub above_any : (files : Program) (n : ℕ) (d class : Name)
    → is_above files n class d ≡ list_any (λ i. name_eq i d) (names_above (directly_above files above.Supertypes) n class)
above_any files zero d class = refl
above_any files (suc n) d class =
    let p : Name → Bool = λ i. name_eq i d in
    let g : Name → List Name = names_above (directly_above files above.Supertypes) n in
    any_same (λ s. p s || is_above files n s d) (λ s. p s || list_any p (g s)) (λ s. ap (λ b. p s || b) (above_any files n d s)) (direct_supertypes files class)
    ∙ any_swap (λ s. p s || list_any p (g s)) (option_to_list (superclass_of files class)) (superinterfaces_of files class)
    ∙ sym (any_flat p g (directly_above files above.Supertypes class))

pub any_index : (q : Name → Bool) (h : ℕ → Option Name) (xs : List ℕ) (i : ℕ) → i < length xs
    → list_any q (filter_map h (drop i xs))
    ≡ (list_any q (option_to_list (h (get_or xs i 0))) || list_any q (filter_map h (drop (i + 1) xs)))
any_index q h xs i lt =
    ap (λ (l : List ℕ). list_any q (filter_map h l)) (drop-cons xs i 0 lt ∙ ap (λ k. get_or xs i 0 ∷ drop k xs) more)
    ∙ by (h (get_or xs i 0))
  where
    more : suc i ≡ i + 1
    more = omega arith

    by : (o : Option Name) → list_any q (cons_option o (filter_map h (drop (i + 1) xs)))
        ≡ (list_any q (option_to_list o) || list_any q (filter_map h (drop (i + 1) xs)))
    by None = refl
    by (Some name) = ap (λ b. b || list_any q (filter_map h (drop (i + 1) xs))) (sym (or-false (q name)))

pub above_itself : (files : Program) (class : Name)
    → is_above files (length (classes_of files)) class class ≡ list_any (leads_to files class) (direct_supertypes files class)
above_itself files class = ap (λ n. is_above files n class class) (class_count files)

pub above_itself_by : (files : Program) (class : Name) (file : FileTree) → class_of files class ≡ Some file
    → is_above files (length (classes_of files)) class class
    ≡ (list_any (leads_to files class) (option_to_list (super_name_of file)) || list_any (leads_to files class) (interface_names file))
above_itself_by files class file is =
    above_itself files class
    ∙ list_any-append (leads_to files class) (option_to_list (superclass_of files class)) (superinterfaces_of files class)
    ∙ ap (λ (o : Option FileTree). list_any (leads_to files class) (option_to_list (option_and_then super_name_of o)) || list_any (leads_to files class) (option_map_or interface_names o [])) is

pub none_above_itself : (files : Program) (class : Name) → class_of files class ≡ None
    → is_above files (length (classes_of files)) class class ≡ false
none_above_itself files class is =
    above_itself files class
    ∙ ap (λ (o : Option FileTree). list_any (leads_to files class) (option_to_list (option_and_then super_name_of o) ++ option_map_or interface_names o [])) is
