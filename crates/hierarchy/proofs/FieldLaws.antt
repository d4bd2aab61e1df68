-- Fields, sought along superclasses.
use Rattle.std.proofs.Common.{◌≡◌, ◌∙◌, ℕ, zero, suc, ◌-◌, ◌<◌, ◌≤◌, Bool, false, List, [], ◌∷◌, length, map, refl, sym, ap, arith, Option, Some, None, leb-false}
use Rattle.std.specs.Prelude.{not, nat_le}
use Rattle.std.specs.Option.{option_and_then, option_map_or, option_or, option_to_list}
use Rattle.std.specs.List.{flat_map, list_any}
use Rattle.std.proofs.lemmas.Bool.{or_parts, not-false}
use Rattle.model.specs.BuiltIn.{built_in_classes}
use Rattle.model.specs.built_in.Object.{object_class}
use Rattle.model.specs.Names.{Name, name_eq, Member, java_lang_object}
use Rattle.model.specs.Tree.{FileTree}
use Rattle.model.specs.Classes.{Program, class_of, classes_of, superclass_of, superinterfaces_of, interface_names, interfaces_above, lineage_of, is_named}
use Rattle.model.specs.Lookup.{first_found, field_from, field_in_class, find_field}
use Rattle.hierarchy.specs.declared.rows.Above.TheVariants as above
use Rattle.hierarchy.specs.Above.{directly_above, names_above, rows_of}
use Rattle.hierarchy.specs.Fields.{is_below_other, has_interface_below_other, SuperinterfacesAreFlat, HasSupertypes}
use Rattle.hierarchy.specs.Ranks.{rank_of}
use Rattle.hierarchy.proofs.SetLaws.{same_name, field_of_none}
use Rattle.hierarchy.proofs.Indices.{not_found}
use Rattle.hierarchy.proofs.Walks.{or_else_assoc, or_else_none, found-append, lineage_last, above_is, class_count}
use Rattle.hierarchy.proofs.RankLaws.{Ranked, ranked_by, steady}

-- ---- Object, which declares no field

pub object_is : (files : Program) → class_of files java_lang_object ≡ Some object_class
unfolding built_in_classes
object_is files = refl

object_alone : (files : Program) (m : Member) (n : ℕ) → field_from files n m java_lang_object ≡ None
object_alone files m zero = refl
object_alone files m (suc n) = rw (object_is files) refl

-- ---- superinterfaces

-- fields of the superclass of an interface that is below Object alone
nothing_above : (files : Program) (m : Member) (n : ℕ) (o : Option Name)
    → option_map_or (λ s. not (name_eq s java_lang_object)) o false ≡ false → option_and_then (λ s. field_from files n m s) o ≡ None
nothing_above files m n None h = refl
nothing_above files m n (Some s) h = ap (field_from files n m) (same_name s java_lang_object (not-false _ h)) ∙ object_alone files m n

-- what is found in each of several is found in all of them together
each_found : (f : Name → Option Member) (g : Name → Option Member) (h : Name → List Name) (late other : Name → Bool) (xs : List Name)
    → list_any late xs ≡ false → list_any other xs ≡ false
    → ((x : Name) → late x ≡ false → other x ≡ false → g x ≡ first_found f (x ∷ h x))
    → first_found g xs ≡ first_found f (flat_map (λ x. x ∷ h x) xs)
each_found f g h late other [] low flat same = refl
each_found f g h late other (x ∷ xs) low flat same =
    let a = or_parts (late x) (list_any late xs) low in
    let b = or_parts (other x) (list_any other xs) flat in
    ap (λ o. option_or o (first_found g xs)) (same x a.0 b.0)
    ∙ ap (option_or (first_found f (x ∷ h x))) (each_found f g h late other xs a.1 b.1 same)
    ∙ sym (found-append f (x ∷ h x) (flat_map (λ x. x ∷ h x) xs))

-- no superinterface of a class is below another class than Object
pub interfaces_flat : (files : Program) (class : Name) → list_any (has_interface_below_other files) (classes_of files) ≡ false
    → list_any (is_below_other files) (superinterfaces_of files class) ≡ false
interfaces_flat files class flat = by (class_of files class) refl
  where
    by : (o : Option FileTree) → class_of files class ≡ o → list_any (is_below_other files) (superinterfaces_of files class) ≡ false
    by None e = ap (λ (o : Option FileTree). list_any (is_below_other files) (option_map_or interface_names o [])) e
    by (Some file) e = ap (λ (o : Option FileTree). list_any (is_below_other files) (option_map_or interface_names o [])) e ∙ not_found (is_named class) (has_interface_below_other files) (classes_of files) file e flat

from_interface : (files : Program) (rank : Name → ℕ) → Ranked files rank
    → list_any (has_interface_below_other files) (classes_of files) ≡ false → (m : Member) (n : ℕ) (i : Name) → rank i ≤ n
    → is_below_other files i ≡ false
    → field_from files n m i ≡ first_found (field_in_class files m) (i ∷ names_above (directly_above files above.Interfaces) n i)
from_interface files rank r flat m zero i low here = sym (ap (λ o. option_or o None) (field_of_none files m i (r.none i low)))
from_interface files rank r flat m (suc n) i low here =
    ap (λ o. option_or (field_in_class files m i) (option_or (first_found (λ j. field_from files n m j) (superinterfaces_of files i)) o)) (nothing_above files m n (superclass_of files i) here)
    ∙ ap (option_or (field_in_class files m i)) (or_else_none _
    ∙ each_found (field_in_class files m) (λ j. field_from files n m j) (names_above (directly_above files above.Interfaces) n) (λ s. nat_le (rank i) (rank s)) (is_below_other files) (superinterfaces_of files i) (r.interfaces i) (interfaces_flat files i flat)
    (λ j below near. let less : rank j < rank i = leb-false (rank i) (rank j) below in from_interface files rank r flat m n j (omega arith) near))

-- ---- along superclasses

from_class : (files : Program) (rank : Name → ℕ) → Ranked files rank
    → list_any (has_interface_below_other files) (classes_of files) ≡ false → (m : Member) (n : ℕ) (class : Name) → rank class ≤ n
    → field_from files n m class ≡ first_found (field_in_class files m) (flat_map (λ c. c
    ∷ interfaces_above files c) (lineage_of files n class))
from_class files rank r flat m zero class low = refl
from_class files rank r flat m (suc n) class low =
    let count = length (classes_of files) in
    let few : rank class ≤ suc count = at_most (rank class) count (r.few class) in
    let inside : first_found (λ i. field_from files n m i) (superinterfaces_of files class) ≡ first_found (field_in_class files m) (interfaces_above files class) =
    each_found (field_in_class files m) (λ i. field_from files n m i) (names_above (directly_above files above.Interfaces) n) (λ s. nat_le (rank class) (rank s)) (is_below_other files) (superinterfaces_of files class) (r.interfaces class) (interfaces_flat files class flat)
    (λ i below near. from_interface files rank r flat m n i (one_less (rank i) (rank class) n (leb-false (rank class) (rank i) below) low) near)
    ∙ ap (first_found (field_in_class files m)) (steady files rank r above.Interfaces (suc n) (suc count) class low few ∙ above_is files class) in
    ap (λ o. option_or (field_in_class files m class) (option_or o (option_and_then (λ s. field_from files n m s) (superclass_of files class)))) inside
    ∙ sym (or_else_assoc (field_in_class files m class) (first_found (field_in_class files m) (interfaces_above files class)) (option_and_then (λ s. field_from files n m s) (superclass_of files class)))
    ∙ ap (option_or (first_found (field_in_class files m) (class ∷ interfaces_above files class))) (super (superclass_of files class) (r.superclass class) (λ s less. from_class files rank r flat m n s less))
    ∙ sym (found-append (field_in_class files m) (class ∷ interfaces_above files class) (flat_map (λ c. c ∷ interfaces_above files c) (option_map_or (λ s. lineage_of files n s) (superclass_of files class) [])))
  where
    at_most : (a b : ℕ) → a < b → a ≤ suc b
    at_most a b h = omega arith

    one_less : (a b n : ℕ) → a < b → b ≤ suc n → a ≤ n
    one_less a b n h k = omega arith

    near : Name → List Name
    near = λ c. c ∷ interfaces_above files c

    super : (o : Option Name) → list_any (λ s. nat_le (rank class) (rank s)) (option_to_list o) ≡ false
        → ((s : Name) → rank s ≤ n → field_from files n m s ≡ first_found (field_in_class files m) (flat_map near (lineage_of files n s)))
        → option_and_then (λ s. field_from files n m s) o
        ≡ first_found (field_in_class files m) (flat_map near (option_map_or (λ s. lineage_of files n s) o []))
    super None h same = refl
    super (Some s) h same = same s (one_less (rank s) (rank class) n (leb-false (rank class) (rank s) (or_parts (nat_le (rank class) (rank s)) false h).0) low)

pub along_superclasses : (files : Program) → SuperinterfacesAreFlat files → (m : Member)
    → first_found (field_in_class files m) (flat_map (λ c. c
    ∷ interfaces_above files c) (lineage_of files (length (classes_of files) - 0) m.class)) ≡ find_field files m
along_superclasses files h m =
    let r = ranked_by files h.ranked in
    ap (λ n. first_found (field_in_class files m) (flat_map (λ c. c ∷ interfaces_above files c) (lineage_of files n m.class))) (all (length (classes_of files)))
    ∙ sym (from_class files (rank_of files h.ranked.ranks) r h.flat m (length (classes_of files)) m.class (within (rank_of files h.ranked.ranks m.class) (length (classes_of files)) (r.few m.class)))
  where
    all : (n : ℕ) → n - 0 ≡ n
    all n = omega arith

    within : (a b : ℕ) → a < b → a ≤ b
    within a b h = omega arith

-- nothing is found at the last of the superclasses
pub last_found : (files : Program) (g : Name → List Name) (f : Name → Option Member) (n i : ℕ) (class : Name) (all : Option Member) → i < n
    → superclass_of files class ≡ None → None ≡ first_found f (g class)
    → first_found f (flat_map g (lineage_of files (n - i) class)) ≡ all → None ≡ all
last_found files g f n i class all lt last none e = none ∙ ap (first_found f) (sym (lineage_last files g n i class lt last)) ∙ e

-- ---- the rows that are kept of all supertypes

no_row : {A B : Type 0} (f : A → B) (xs : List A) (n : ℕ) → length xs ≡ suc n → [] ≡ map f xs → ⊥
no_row f [] n h e = omega (arith, h)
no_row f (x ∷ xs) n h e = cc

-- rows of all supertypes stand where they are kept
pub of_rows : (files : Program) (rows : List (List Name)) → rows ≡ rows_of files above.Supertypes (length (classes_of files) - 1)
    → HasSupertypes files rows
unfolding rows_of
of_rows files [] e = absurd (no_row _ (classes_of files) _ (class_count files) e)
of_rows files (row ∷ rows) e = e
