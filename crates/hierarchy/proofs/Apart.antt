-- Classes whose names differ: the class at a place is the one of its name, and so are its members.
use Rattle.std.proofs.Common.{◌≡◌, ℕ, zero, suc, false, cond, List, [], ◌∷◌, ◌++◌, refl, sym, ap, ◌∙◌, subst, Option, Some}
use Rattle.std.specs.Prelude.{find, position, slice_get}
use Rattle.std.specs.Option.{option_and_then, option_map_or}
use Rattle.std.specs.List.{list_any}
use Rattle.std.proofs.lemmas.Bool.{or_from, or_parts}
use Rattle.std.proofs.lemmas.List.Folds.{list_any-append}
use Rattle.model.specs.Names.{Member}
use Rattle.model.specs.Tree.{FileTree}
use Rattle.model.specs.BuiltIn.{built_in_classes}
use Rattle.model.specs.Classes.{Program, name_of, classes_of, class_of, is_named, is_method, declared_in}
use Rattle.model.specs.Lookup.{is_field, field_in, field_of, method_of}
use Rattle.model.specs.Linkable.{stands, DuplicateClass, two_of_one_name, has_built_in_name}
use Rattle.hierarchy.specs.declared.place.MemberPlace.{MemberPlace}
use Rattle.hierarchy.specs.Places.{class_at, name_at, member_in, IsFieldAt, IsMethodAt}
use Rattle.hierarchy.proofs.Finding.{find_by_position, none_at}
use Rattle.hierarchy.proofs.Names.{name_eq_sym, built_in_differ, found_any}
use Rattle.hierarchy.proofs.RowLaws.{name_eq_refl}

-- ---- names that differ

-- those of two lists, where none of the second has a name of the first
apart : (xs ys : List FileTree) → two_of_one_name xs ≡ false → two_of_one_name ys ≡ false
    → list_any (λ y. list_any (is_named (name_of y)) xs) ys ≡ false → two_of_one_name (xs ++ ys) ≡ false
apart [] ys h k cross = k
apart (x ∷ xs) ys h k cross =
    let here = or_parts (list_any (is_named (name_of x)) xs) _ h in
    or_from _ _ (list_any-append (is_named (name_of x)) xs ys ∙ or_from _ _ here.0 (first ys cross)) (apart xs ys here.1 k (rest ys cross))
  where
    first : (ys : List FileTree) → list_any (λ y. list_any (is_named (name_of y)) (x ∷ xs)) ys ≡ false
        → list_any (is_named (name_of x)) ys ≡ false
    first [] c = refl
    first (y ∷ ys) c =
        let both = or_parts (list_any (is_named (name_of y)) (x ∷ xs)) _ c in
        or_from _ _ (name_eq_sym (name_of y) (name_of x) ∙ (or_parts (is_named (name_of y) x) _ both.0).0) (first ys both.1)

    rest : (ys : List FileTree) → list_any (λ y. list_any (is_named (name_of y)) (x ∷ xs)) ys ≡ false
        → list_any (λ y. list_any (is_named (name_of y)) xs) ys ≡ false
    rest [] c = refl
    rest (y ∷ ys) c =
        let both = or_parts (list_any (is_named (name_of y)) (x ∷ xs)) _ c in
        or_from _ _ (or_parts (is_named (name_of y) x) _ both.0).1 (rest ys both.1)

none_built_in : (files : Program) → list_any has_built_in_name files ≡ false
    → list_any (λ y. list_any (is_named (name_of y)) built_in_classes) files ≡ false
none_built_in [] h = refl
none_built_in (file ∷ files) h =
    let both = or_parts (has_built_in_name file) _ h in
    or_from _ _ (sym (found_any (is_named (name_of file)) built_in_classes) ∙ both.0) (none_built_in files both.1)

pub all_differ : (files : Program) → stands files DuplicateClass ≡ false → two_of_one_name (classes_of files) ≡ false
all_differ files h =
    let both = or_parts (two_of_one_name files) _ h in
    apart built_in_classes files built_in_differ both.0 (none_built_in files both.1)

-- ---- classes

-- the class at a place is the first of its name
pub found_by_name : (classes : List FileTree) (k : ℕ) (file : FileTree) → two_of_one_name classes ≡ false → slice_get classes k ≡ Some file
    → find (is_named (name_of file)) classes ≡ Some file
found_by_name [] k file differ at = absurd cc
found_by_name (x ∷ xs) zero file differ at =
    let same : x ≡ file = cc in
    subst (λ (z : FileTree). find (is_named (name_of z)) (x ∷ xs) ≡ Some z) same (ap (λ b. cond b (Some x) (find (is_named (name_of x)) xs)) (name_eq_refl (name_of x)))
found_by_name (x ∷ xs) (suc k) file differ at =
    let parts = or_parts (list_any (is_named (name_of x)) xs) _ differ in
    let other : is_named (name_of file) x ≡ false = name_eq_sym (name_of x) (name_of file) ∙ none_at (is_named (name_of x)) xs k file parts.0 at in
    ap (λ b. cond b (Some x) (find (is_named (name_of file)) xs)) other ∙ found_by_name xs k file parts.1 at

pub class_of_its_name : (files : Program) (k : ℕ) (file : FileTree) → stands files DuplicateClass ≡ false → class_at files k ≡ Some file
    → class_of files (name_of file) ≡ Some file
class_of_its_name files k file differ at = found_by_name (classes_of files) k file (all_differ files differ) at

-- ---- members

module _ (files : Program) (m : Member) (p : MemberPlace) (file : FileTree) (differ : stands files DuplicateClass ≡ false)
    (at : class_at files p.class ≡ Some file) where
  named : class_of files (name_at files p.class) ≡ Some file
  named = ap (λ (o : Option FileTree). class_of files (option_map_or name_of o [])) at ∙ class_of_its_name files p.class file differ at

  -- the field at the place is the one that the class declares
  pub field_there : IsFieldAt files m p → slice_get file.fields p.member ≡ field_of files (member_in files m p)
  field_there stands_so =
      let test = is_field file.pool m.name m.descriptor in
      let place : position test file.fields ≡ Some p.member = ap (λ (o : Option FileTree). option_and_then (λ (f : FileTree). position (is_field f.pool m.name m.descriptor) f.fields) o) (sym at) ∙ stands_so in
      sym
      (ap (λ (o : Option FileTree). option_and_then (λ (f : FileTree). field_in f m.name m.descriptor) o) named
      ∙ find_by_position test file.fields ∙ ap (λ o. option_and_then (slice_get file.fields) o) place)

  -- and so is the method
  pub method_there : IsMethodAt files m p → slice_get file.methods p.member ≡ method_of files (member_in files m p)
  method_there stands_so =
      let test = is_method file.pool m.name m.descriptor in
      let place : position test file.methods ≡ Some p.member = ap (λ (o : Option FileTree). option_and_then (λ (f : FileTree). position (is_method f.pool m.name m.descriptor) f.methods) o) (sym at) ∙ stands_so in
      sym
      (ap (λ (o : Option FileTree). option_and_then (λ (f : FileTree). declared_in f m.name m.descriptor) o) named
      ∙ find_by_position test file.methods ∙ ap (λ o. option_and_then (slice_get file.methods) o) place)
