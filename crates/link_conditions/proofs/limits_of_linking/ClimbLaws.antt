-- Steps up from classes.
use Rattle.std.proofs.Common.{◌≡◌, ℕ, zero, suc, ◌+◌, ◌≤◌, true, List, [], ◌∷◌, ◌++◌, length, map, drop, reverse, refl, sym, ap, ⊎_elim, ◌∙◌, arith, Option, Some, None}
use Rattle.std.specs.Prelude.{position, slice_get, slice_range, nat_lt}
use Rattle.std.specs.Option.{option_and_then, option_map_or}
use Rattle.std.specs.List.{filter, flat_map}
use Rattle.std.proofs.lemmas.List.{append-nil, reverse-append, drop-map, length-map, take_rest}
use Rattle.std.proofs.lemmas.Grind.{flat_map-append}
use Rattle.std.proofs.lemmas.Bool.{cases_lt}
use Rattle.std.proofs.lemmas.Bool.Decides.{nat_tests}
use Rattle.model.specs.Names.{Name, Member}
use Rattle.model.specs.Tree.{FileTree}
use Rattle.model.specs.BuiltIn.{built_in_classes}
use Rattle.model.specs.Classes.{Program, name_of, super_name_of, is_named, class_of, classes_of, superclass_of, lineage_of, lineage}
use Rattle.model.specs.AccessFlags.{is_instance_field}
use Rattle.model.specs.HiddenMembers.{is_cell}
use Rattle.model.specs.Lookup.{own_instance_fields, field_member}
use Rattle.model.specs.Linkable.{too_many_fields}
use Rattle.hierarchy.specs.Places.{place_of}
use Rattle.hierarchy.proofs.Finding.{position_within, position-map, position_same}
use Rattle.hierarchy.proofs.SetLaws.{no_class, name_at_place, no_item}
use Rattle.link_conditions.specs.declared.limits_of_linking.climb.Climb.{Climb}
use Rattle.link_conditions.specs.limits_of_linking.Climbing.{superclass_after, cells_within, capped, climb, climbs, after, onward}
use Rattle.hierarchy.proofs.RowLaws.{get_map}
use Rattle.hierarchy.proofs.Indices.{count_behind}
use Rattle.link_conditions.specs.limits_of_linking.Cells.{own_cells}
use Rattle.link_conditions.proofs.limits_of_linking.CellLaws.{own_within, filter_append}

suc_add : (m n : ℕ) → suc m + n ≡ suc (m + n)
suc_add m n = omega arith

zero_add : (n : ℕ) → zero + n ≡ n
zero_add n = omega arith

-- ---- steps after steps

after_add : (files : Program) (m n : ℕ) (c : Name)
    → superclass_after files (m + n) c ≡ option_and_then (superclass_after files n) (superclass_after files m c)
after_add files zero n c = ap (λ k. superclass_after files k c) (zero_add n)
after_add files (suc m) n c = ap (λ k. superclass_after files k c) (suc_add m n) ∙ by (λ s. after_add files m n s) (superclass_of files c)
  where
    by : ((s : Name) → superclass_after files (m + n) s ≡ option_and_then (superclass_after files n) (superclass_after files m s))
        → (o : Option Name) → option_and_then (superclass_after files (m + n)) o
        ≡ option_and_then (superclass_after files n) (option_and_then (superclass_after files m) o)
    by rest None = refl
    by rest (Some s) = rest s

lineage_add : (files : Program) (m n : ℕ) (c : Name)
    → lineage_of files (m + n) c ≡ lineage_of files m c ++ option_map_or (lineage_of files n) (superclass_after files m c) []
lineage_add files zero n c = ap (λ k. lineage_of files k c) (zero_add n)
lineage_add files (suc m) n c = ap (λ k. lineage_of files k c) (suc_add m n) ∙ ap (λ l. c ∷ l) (by (λ s. lineage_add files m n s) (superclass_of files c))
  where
    by : ((s : Name) → lineage_of files (m + n) s
        ≡ lineage_of files m s ++ option_map_or (lineage_of files n) (superclass_after files m s) []) → (o : Option Name)
        → option_map_or (λ s. lineage_of files (m + n) s) o []
        ≡ option_map_or (λ s. lineage_of files m s) o []
        ++ option_map_or (lineage_of files n) (option_and_then (superclass_after files m) o) []
    by rest None = refl
    by rest (Some s) = rest s

cells_add : (files : Program) (m n : ℕ) (c : Name) (o : Option Name) → superclass_after files m c ≡ o
    → cells_within files (m + n) c ≡ cells_within files m c + option_map_or (cells_within files n) o 0
cells_add files m n c o e =
    ap (λ l. length (filter is_cell (flat_map own l))) (lineage_add files m n c ∙ ap (λ (x : Option Name). lineage_of files m c ++ option_map_or (lineage_of files n) x []) e)
    ∙ ap (λ l. length (filter is_cell l)) (flat_map-append own (lineage_of files m c) (option_map_or (lineage_of files n) o []))
    ∙ filter_append is_cell (flat_map own (lineage_of files m c)) (flat_map own (option_map_or (lineage_of files n) o []))
    ∙ ap (λ k. cells_within files m c + k) (by o)
  where
    own : Name → List Member
    own = own_instance_fields files

    by : (o : Option Name) → length (filter is_cell (flat_map own (option_map_or (lineage_of files n) o []))) ≡ option_map_or (cells_within files n) o 0
    by None = refl
    by (Some s) = refl

-- ---- a class that is not there

after_none : (files : Program) (n : ℕ) (s : Name) → class_of files s ≡ None → place_of files s ≡ None
    → option_and_then (place_of files) (superclass_after files n s) ≡ None
after_none files zero s h p = p
after_none files (suc n) s h p = rw h refl

cells_none : (files : Program) (n : ℕ) (s : Name) → class_of files s ≡ None → cells_within files n s ≡ 0
cells_none files zero s h = refl
cells_none files (suc n) s h =
    ap (λ (o : Option FileTree). length (filter is_cell (own_of o ++ flat_map (own_instance_fields files) (option_map_or (λ x. lineage_of files n x) (option_and_then super_name_of o) [])))) h
  where
    own_of : Option FileTree → List Member
    own_of o = option_map_or (λ (file : FileTree). map (field_member s file.pool) (filter is_instance_field file.fields)) o []

-- ---- rows

capped_add : (a b : ℕ) → capped (capped a + capped b) ≡ capped (a + b)
capped_add a b = omega arith

capped_none : (a : ℕ) → capped a ≡ capped (a + 0)
capped_none a = omega arith

abbrev whole : Program → ℕ → ℕ → Name → Option Name → Climb
whole files m n c o = record { next = option_and_then (place_of files) (option_and_then (superclass_after files n) o); cells = capped (cells_within files m c + option_map_or (cells_within files n) o 0) }

abbrev front : Program → ℕ → Name → Option ℕ → Climb
front files m c next = record { next = next; cells = capped (cells_within files m c) }

same_climb : (a b : Option ℕ) (x y : ℕ) → a ≡ b → x ≡ y
    → ◌≡◌ {A = Climb} (record { next = a; cells = x }) (record { next = b; cells = y })
same_climb a b x y h k = cc

-- from the class at a place on
from_place : (files : Program) (m n : ℕ) (c s : Name) (k : ℕ) (o : Option FileTree) → place_of files s ≡ Some k
    → slice_get (classes_of files) k ≡ o
    → option_map_or (after (front files m c (Some k))) (slice_get (climbs files n) k) (front files m c (Some k))
    ≡ whole files m n c (Some s)
unfolding climbs
from_place files m n c s k None g t = absurd (no_item (classes_of files) k (position_within (is_named s) (classes_of files) k g) t)
from_place files m n c s k (Some file) g t =
    let name = name_at_place files s k file g t in
    ap (λ (r : Option Climb). option_map_or (after (front files m c (Some k))) r (front files m c (Some k))) (get_map (λ (f : FileTree). climb files n (name_of f)) (classes_of files) k file t ∙ ap (λ x. Some (climb files n x)) name)
    ∙ same_climb _ _ _ _ refl (capped_add (cells_within files m c) (cells_within files n s))

from_class : (files : Program) (m n : ℕ) (c s : Name) (o : Option ℕ) → place_of files s ≡ o
    → onward (climbs files n) (front files m c o) ≡ whole files m n c (Some s)
from_class files m n c s None g =
    let missing = no_class files s g in
    same_climb _ _ _ _ (sym (after_none files n s missing g)) (capped_none (cells_within files m c) ∙ ap (λ k. capped (cells_within files m c + k)) (sym (cells_none files n s missing)))
from_class files m n c s (Some k) g = from_place files m n c s k (slice_get (classes_of files) k) g refl

from_all : (files : Program) (m n : ℕ) (c : Name) (o : Option Name)
    → onward (climbs files n) (front files m c (option_and_then (place_of files) o)) ≡ whole files m n c o
from_all files m n c None = same_climb _ _ _ _ refl (capped_none (cells_within files m c))
from_all files m n c (Some s) = from_class files m n c s (place_of files s) refl

onward_is : (files : Program) (m n : ℕ) (c : Name) → onward (climbs files n) (climb files m c) ≡ climb files (m + n) c
onward_is files m n c =
    from_all files m n c (superclass_after files m c)
    ∙ same_climb _ _ _ _ (ap (option_and_then (place_of files)) (sym (after_add files m n c))) (ap capped (sym (cells_add files m n c (superclass_after files m c) refl)))

map_same : {A B C : Type 0} (f : A → B) (g : B → C) (h : A → C) → ((x : A) → g (f x) ≡ h x) → (xs : List A) → map g (map f xs) ≡ map h xs
map_same f g h same [] = refl
map_same f g h same (x ∷ xs) = rw (same x, map_same f g h same xs) refl

pub climbs_add : (files : Program) (m n : ℕ) → map (onward (climbs files n)) (climbs files m) ≡ climbs files (m + n)
unfolding climbs
climbs_add files m n = map_same (λ (file : FileTree). climb files m (name_of file)) (onward (climbs files n)) (λ (file : FileTree). climb files (m + n) (name_of file)) (λ file. onward_is files m n (name_of file)) (classes_of files)

-- ---- as many steps as there are classes

abbrev cells_in : List Member → ℕ
cells_in fields = length (filter is_cell fields)

sum_reverse : (f : Name → List Member) (xs : List Name) → cells_in (flat_map f (reverse xs)) ≡ cells_in (flat_map f xs)
sum_reverse f [] = refl
sum_reverse f (x ∷ xs) =
    let back : reverse (x ∷ xs) ≡ reverse xs ++ x ∷ [] = reverse-append (x ∷ []) xs in
    let split : cells_in (flat_map f (reverse xs ++ x ∷ [])) ≡ cells_in (flat_map f (reverse xs)) + cells_in (flat_map f (x ∷ [])) = ap cells_in (flat_map-append f (reverse xs) (x ∷ [])) ∙ filter_append is_cell (flat_map f (reverse xs)) (flat_map f (x ∷ [])) in
    let one : cells_in (flat_map f (x ∷ [])) ≡ cells_in (f x) = ap cells_in (append-nil (f x)) in
    let all : cells_in (f x ++ flat_map f xs) ≡ cells_in (f x) + cells_in (flat_map f xs) = filter_append is_cell (f x) (flat_map f xs) in
    ap (λ l. cells_in (flat_map f l)) back ∙ split ∙ omega (arith, one, all, sum_reverse f xs)

over : (n : ℕ) → 65536 ≤ n → nat_lt 65535 n ≡ true
over n h = grind (arith, nat_tests)

above_cap : (n : ℕ) → nat_lt 65535 (capped n) ≡ nat_lt 65535 n
above_cap n = ⊎_elim
    (λ h. let same : capped n ≡ n = omega arith in ap (nat_lt 65535) same)
    (λ h. let cut : capped n ≡ 65536 = omega arith in ap (nat_lt 65535) cut ∙ sym (over n h))
    (cases_lt n 65536)

pub is_too_many : (files : Program) (file : FileTree)
    → nat_lt 65535 (climb files (length (classes_of files)) (name_of file)).cells ≡ too_many_fields files file
is_too_many files file =
    let c = name_of file in
    above_cap (cells_within files (length (classes_of files)) c) ∙ ap (nat_lt 65535) (sym (sum_reverse (own_instance_fields files) (lineage files c)))

files_after : (files : Program) → drop 37 (classes_of files) ≡ files
unfolding built_in_classes
files_after files = refl

pub too_many_at : (files : Program) → position (λ (row : Climb). nat_lt 65535 row.cells)
    (drop 37 (climbs files (length (classes_of files)))) ≡ position (too_many_fields files) files
unfolding climbs
too_many_at files =
    let f : FileTree → Climb = λ file. climb files (length (classes_of files)) (name_of file) in
    let rest : drop 37 (climbs files (length (classes_of files))) ≡ map f files = drop-map f 37 (classes_of files) ∙ ap (map f) (files_after files) in
    ap (position (λ (row : Climb). nat_lt 65535 row.cells)) rest
    ∙ position-map (λ (row : Climb). nat_lt 65535 row.cells) f files
    ∙ position_same _ _ (λ file. is_too_many files file) files

-- ---- twice as many steps

pub twice : (files : Program) (n m : ℕ) (half first second rows : List Climb) → half ≡ climbs files n → first ≡ half → second ≡ half
    → rows ≡ map (onward second) first → n + n ≡ m → rows ≡ climbs files m
twice files n m half first second rows is one two made count =
    made ∙ ap (λ l. map (onward l) first) (two ∙ is) ∙ ap (map (onward (climbs files n))) (one ∙ is) ∙ climbs_add files n n ∙ ap (climbs files) count

pub one_more : (files : Program) (n m : ℕ) (first one rows : List Climb) → first ≡ climbs files n → one ≡ climbs files 1
    → rows ≡ map (onward one) first → n + 1 ≡ m → rows ≡ climbs files m
one_more files n m first one rows is single made count =
    made ∙ ap (λ l. map (onward l) first) single ∙ ap (map (onward (climbs files 1))) is ∙ climbs_add files n 1 ∙ ap (climbs files) count

-- ---- the rows of the files

pub built_in_at_least : (files : Program) (n : ℕ) → 37 ≤ length (climbs files n)
unfolding climbs
built_in_at_least files n = omega (arith, count_behind files, length-map (classes_of files) (λ (file : FileTree). climb files n (name_of file)))

pub rest_of : (rows : List Climb) → slice_range rows 37 (length rows) ≡ drop 37 rows
rest_of rows = take_rest rows 37

-- ---- one step

one_class : (files : Program) (class : Name) → lineage_of files 1 class ≡ class ∷ []
one_class files class = by (superclass_of files class)
  where
    by : (o : Option Name) → class ∷ option_map_or (λ s. lineage_of files 0 s) o [] ≡ class ∷ []
    by None = refl
    by (Some s) = refl

pub one_step_is : (files : Program) (class : Name) (file : FileTree) (o : Option Name) → class_of files class ≡ Some file
    → superclass_of files class ≡ o
    → ◌≡◌ {A = Climb} (record { next = option_and_then (place_of files) o; cells = capped (own_cells file) }) (climb files 1 class)
one_step_is files class file o e s =
    same_climb _ _ _ _ (ap (option_and_then (place_of files)) (sym s ∙ sym (by (superclass_of files class)))) (ap capped (sym cells))
  where
    by : (o : Option Name) → option_and_then (superclass_after files zero) o ≡ o
    by None = refl
    by (Some c) = refl

    cells : cells_within files 1 class ≡ own_cells file
    cells =
        ap (λ l. length (filter is_cell (flat_map (own_instance_fields files) l))) (one_class files class)
        ∙ ap (λ l. length (filter is_cell l)) (append-nil (own_instance_fields files class))
        ∙ own_within files class file e

pub no_step : (files : Program) (class : Name) → class_of files class ≡ None
    → ◌≡◌ {A = Climb} (record { next = None; cells = 0 }) (climb files 1 class)
no_step files class h = rw h refl
