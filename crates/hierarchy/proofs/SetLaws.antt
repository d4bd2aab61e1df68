-- Sets of classes by their names.
use Rattle.std.proofs.Common.{◌≡◌, ℕ, zero, suc, ◌+◌, ◌<◌, ◌≤◌, Bool, true, false, ltb, ◌||◌, List, [], ◌∷◌, ◌++◌, length, map, take, drop, get_or, refl, sym, ap, ◌∙◌, append_assoc, arith, Option, Some, None, ⊎_elim}
use Rattle.std.specs.Prelude.{position, slice_get}
use Rattle.std.specs.Option.{option_and_then}
use Rattle.std.specs.List.{list_any}
use Rattle.std.proofs.lemmas.List.{take_more, take-append-drop}
use Rattle.std.proofs.lemmas.List.Folds.{list_any-append}
use Rattle.std.proofs.lemmas.Slice.Eq.{bytes_eq-Decides}
use Rattle.std.proofs.Math.Seq.{take-append-add}
use Rattle.std.proofs.lemmas.Option.{slice_get-get_or, slice_get_within, get_or_from_slice_get}
use borrow.Author.Tests.{ltb-true, ltb-false}
use Rattle.std.proofs.lemmas.List.{take-append-le, get_or-append-add, get_or_append_left}
use Rattle.std.proofs.lemmas.Bool.{or_cases, or_left, or_right, both_ways}
use Rattle.model.specs.Names.{Name, name_eq, Member}
use Rattle.model.specs.Tree.{FileTree, FieldTree, MethodTree}
use Rattle.model.specs.BuiltIn.{built_in_classes}
use Rattle.model.specs.Classes.{Program, name_of, classes_of, class_of, is_named, is_method}
use Rattle.model.specs.Lookup.{is_field, in_class, where_so, field_in_class, method_in_class}
use Rattle.model.specs.Linkable.{stands, DuplicateClass, two_of_one_name, has_built_in_name}
use Rattle.hierarchy.specs.Set.{files_of, IsAgain}
use Rattle.hierarchy.proofs.Names.{name_eq_sym, again, built_in_differ, found_any}
use Rattle.hierarchy.proofs.Finding.{position-map, position_same, find_by_position, passes_at, nowhere, find_passes, position_within, one_at}

-- ---- by names

pub same_name : (a b : Name) → name_eq a b ≡ true → a ≡ b
same_name a b h = (bytes_eq-Decides a b).0 h

pub position_by_name : {K : Type 0} (items : K → Name) (keys : List K) (trees : List FileTree) (name : Name)
    → map items keys ≡ map name_of trees → position (λ k. name_eq name (items k)) keys ≡ position (is_named name) trees
position_by_name items keys trees name e =
    sym (position-map (name_eq name) items keys) ∙ ap (position (name_eq name)) e ∙ position-map (name_eq name) name_of trees
    ∙ position_same (λ t. name_eq name (name_of t)) (is_named name) (λ t. name_eq_sym name (name_of t)) trees

pub among_by_name : {K : Type 0} (items : K → Name) (keys : List K) (trees : List FileTree) (name : Name)
    → map items keys ≡ map name_of trees → list_any (λ k. name_eq name (items k)) keys ≡ list_any (is_named name) trees
among_by_name items keys trees name e = any_map items keys ∙ ap (list_any (name_eq name)) e ∙ sym (any_map name_of trees) ∙ flip trees
  where
    any_map : {X : Type 0} (f : X → Name) (xs : List X) → list_any (λ x. name_eq name (f x)) xs ≡ list_any (name_eq name) (map f xs)
    any_map f [] = refl
    any_map f (x ∷ xs) = ap (λ b. name_eq name (f x) || b) (any_map f xs)

    flip : (trees : List FileTree) → list_any (λ t. name_eq name (name_of t)) trees ≡ list_any (is_named name) trees
    flip [] = refl
    flip (t ∷ trees) = rw (name_eq_sym name (name_of t), flip trees) refl

-- the class at the place of a name has this name
pub named_so : (files : Program) (name : Name) (file : FileTree) → class_of files name ≡ Some file → name_of file ≡ name
named_so files name file e = same_name (name_of file) name (find_passes (is_named name) (classes_of files) file e)

-- ---- a name again

-- behind the built-in classes stand files
pub files_of_whole : (files : Program) → files_of (built_in_classes ++ files) ≡ files
unfolding files_of
files_of_whole files = cut built_in_classes files
  where
    cut : (xs ys : List FileTree) → drop (length xs) (xs ++ ys) ≡ ys
    cut [] ys = refl
    cut (x ∷ xs) ys = cut xs ys

at_split : (xs : List FileTree) (i : ℕ) (d : FileTree) → i < length xs → xs ≡ take i xs ++ get_or xs i d ∷ drop (i + 1) xs
at_split xs i d lt =
    sym (take-append-drop (i + 1) xs) ∙ ap (λ (l : List FileTree). l ++ drop (i + 1) xs) (take_more xs i d lt) ∙ append_assoc (take i xs) (get_or xs i d ∷ []) (drop (i + 1) xs)

-- a name that stands before in a list
two_at : (xs : List FileTree) (i : ℕ) (d : FileTree) → i < length xs → list_any (is_named (name_of (get_or xs i d))) (take i xs) ≡ true
    → two_of_one_name xs ≡ true
two_at xs i d lt h = ap two_of_one_name (at_split xs i d lt) ∙ again (take i xs) (get_or xs i d) (drop (i + 1) xs) h

pub is_file : (files : Program) (i : ℕ) (d : FileTree)
    → list_any (is_named (name_of (get_or (classes_of files) i d))) (take i (classes_of files)) ≡ true → length built_in_classes ≤ i
is_file files i d h = by (ltb i (length built_in_classes)) refl
  where
    by : (b : Bool) → ltb i (length built_in_classes) ≡ b → length built_in_classes ≤ i
    by false e = ltb-false _ _ e
    by true e =
        let lt : i < length built_in_classes = ltb-true _ _ e in
        let less : i ≤ length built_in_classes = omega arith in
        let h' : list_any (is_named (name_of (get_or built_in_classes i d))) (take i built_in_classes) ≡ true =
        ap (λ (t : FileTree). list_any (is_named (name_of t)) (take i built_in_classes)) (sym (get_or_append_left built_in_classes files d i lt))
        ∙ ap (list_any (is_named (name_of (get_or (classes_of files) i d)))) (sym (take-append-le i built_in_classes files less)) ∙ h in
        absurd (both_ways (two_of_one_name built_in_classes) built_in_differ (two_at built_in_classes i d lt h'))

pub is_again : (files : Program) (k : ℕ) (d : FileTree) → k < length files
    → list_any (is_named (name_of (get_or (classes_of files) (length built_in_classes + k) d)))
    (take (length built_in_classes + k) (classes_of files)) ≡ true → IsAgain files k
is_again files k d lt h = record {
  file = get_or files k d;
  stands = slice_get-get_or files k d lt;
  named =
      found_any (is_named (name_of (get_or files k d))) (classes_of (take k files))
      ∙ ap (list_any (is_named (name_of (get_or files k d)))) (sym (take-append-add built_in_classes files k))
      ∙ ap (λ (t : FileTree). list_any (is_named (name_of t)) (take (length built_in_classes + k) (classes_of files))) (sym (get_or-append-add built_in_classes files k d))
      ∙ h;
}

pub again_stands : (files : Program) (k : ℕ) → IsAgain files k → stands files DuplicateClass ≡ true
again_stands files k h =
    let test = is_named (name_of h.file) in
    let lt = slice_get_within files k h.file h.stands in
    let at : get_or files k h.file ≡ h.file = get_or_from_slice_get files k h.file h.file h.stands in
    let among : (list_any test built_in_classes || list_any test (take k files)) ≡ true =
    sym (list_any-append test built_in_classes (take k files)) ∙ sym (found_any test (classes_of (take k files))) ∙ h.named in
    ⊎_elim
    (λ here. or_right (two_of_one_name files) (list_any has_built_in_name files) (one_at has_built_in_name files k h.file h.stands (found_any test built_in_classes ∙ here)))
    (λ later. or_left (two_of_one_name files) (list_any has_built_in_name files) (two_at files k h.file lt (ap (λ (t : FileTree). list_any (is_named (name_of t)) (take k files)) at ∙ later)))
    (or_cases (list_any test built_in_classes) (list_any test (take k files)) among)

-- ---- members that a class declares

-- the name of the class that stands at the place of a name
pub name_at_place : (files : Program) (name : Name) (k : ℕ) (file : FileTree) → position (is_named name) (classes_of files) ≡ Some k
    → slice_get (classes_of files) k ≡ Some file → name_of file ≡ name
name_at_place files name k file e at = named_so files name file (passes_at (is_named name) (classes_of files) k file e at)

pub no_class : (files : Program) (name : Name) → position (is_named name) (classes_of files) ≡ None → class_of files name ≡ None
no_class files name e = nowhere (is_named name) (classes_of files) e

-- the field that a class declares
pub field_found : (files : Program) (m : Member) (class : Name) (file : FileTree) (f : FieldTree) (i : ℕ)
    → class_of files class ≡ Some file → position (is_field file.pool m.name m.descriptor) file.fields ≡ Some i
    → slice_get file.fields i ≡ Some f
    → field_in_class files m class ≡ Some (in_class class m)
field_found files m class file f i c e at = rw (c, passes_at (is_field file.pool m.name m.descriptor) file.fields i f e at) refl

pub no_field : (files : Program) (m : Member) (class : Name) (file : FileTree) → class_of files class ≡ Some file
    → position (is_field file.pool m.name m.descriptor) file.fields ≡ None → field_in_class files m class ≡ None
no_field files m class file c e = rw (c, nowhere (is_field file.pool m.name m.descriptor) file.fields e) refl

pub field_of_none : (files : Program) (m : Member) (class : Name) → class_of files class ≡ None → field_in_class files m class ≡ None
field_of_none files m class c = rw c refl

-- the method that a class declares
pub method_found : (files : Program) (wanted : MethodTree → Bool) (m : Member) (class : Name) (file : FileTree) (f : MethodTree) (i : ℕ)
    → class_of files class ≡ Some file → position (is_method file.pool m.name m.descriptor) file.methods ≡ Some i
    → slice_get file.methods i ≡ Some f
    → method_in_class files wanted m class ≡ where_so (wanted f) (in_class class m)
method_found files wanted m class file f i c e at = rw (c, passes_at (is_method file.pool m.name m.descriptor) file.methods i f e at) refl

pub no_method : (files : Program) (wanted : MethodTree → Bool) (m : Member) (class : Name) (file : FileTree)
    → class_of files class ≡ Some file → position (is_method file.pool m.name m.descriptor) file.methods ≡ None
    → method_in_class files wanted m class ≡ None
no_method files wanted m class file c e = rw (c, nowhere (is_method file.pool m.name m.descriptor) file.methods e) refl

pub method_of_none : (files : Program) (wanted : MethodTree → Bool) (m : Member) (class : Name) → class_of files class ≡ None
    → method_in_class files wanted m class ≡ None
method_of_none files wanted m class c = rw c refl

pub class_at_place : (files : Program) (name : Name) (k : ℕ) → position (is_named name) (classes_of files) ≡ Some k
    → class_of files name ≡ slice_get (classes_of files) k
class_at_place files name k e = find_by_position (is_named name) (classes_of files) ∙ ap (λ o. option_and_then (slice_get (classes_of files)) o) e

-- there is an item below the length
pub no_item : {A : Type 0} (xs : List A) (i : ℕ) → i < length xs → slice_get xs i ≡ None → ⊥
no_item [] i lt e = omega arith
no_item (x ∷ xs) zero lt e = cc
no_item (x ∷ xs) (suc i) lt e = no_item xs i (omega arith) e

-- a field at a position is declared
pub field_at : (files : Program) (m : Member) (class : Name) (file : FileTree) (i : ℕ) → class_of files class ≡ Some file
    → position (is_field file.pool m.name m.descriptor) file.fields ≡ Some i → field_in_class files m class ≡ Some (in_class class m)
field_at files m class file i c e =
    by (slice_get file.fields i) refl
  where
    by : (o : Option FieldTree) → slice_get file.fields i ≡ o → field_in_class files m class ≡ Some (in_class class m)
    by (Some f) at = field_found files m class file f i c e at
    by None at = absurd (no_item file.fields i (position_within (is_field file.pool m.name m.descriptor) file.fields i e) at)
