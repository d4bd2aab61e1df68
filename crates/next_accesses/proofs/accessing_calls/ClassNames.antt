-- A class that is there is no array class.
use Rattle.std.proofs.Common.{◌≡◌, ◌∙◌, refl, sym, ap, subst, ℕ, List, [], ◌∷◌, Bool, true, false, if◌then◌else◌, Some, None, ◌&&◌, length, nat_lt}
use Rattle.std.specs.Prelude.{find, ◌==◌, unwrap_or}
use Rattle.std.specs.List.{AllByRecursion, list_all}
use Rattle.std.proofs.lemmas.Bool.{and_parts, eqb-true, false≢true}
use Rattle.model.specs.BuiltIn.{built_in_classes}
use Rattle.model.specs.Classes.{Program, class_of, classes_of, is_named, name_of}
use Rattle.model.specs.Conditions.{class_text, entry_names, member_names, names_no_array}
use Rattle.model.specs.DescriptorParts.{is_array_class}
use Rattle.model.specs.Descriptors.{is_class_name, is_unqualified, names_of, with_first}
use Rattle.model.specs.Linkable.{IsLinkable}
use Rattle.model.specs.Lookup.{searched_class}
use Rattle.model.specs.Names.{Name, java_lang_object}
use Rattle.model.specs.Pool.{class_name_of, utf8_of}
use Rattle.model.specs.Spells.{IsWhole}
use Rattle.model.specs.Spelling.{entry_at, text_of}
use Rattle.model.specs.Tree.{Entry, Utf8, Class, FileTree}
use Rattle.run_laws.proofs.laws.Found.{every_all, found_has}
use Rattle.run_laws.proofs.laws.Lists.{every_append}
use Rattle.run_laws.proofs.laws.Unrefused.{unrefused_of}
use Rattle.hierarchy.proofs.SetLaws.{named_so}

no_class_name : (b : ℕ) (bytes : List ℕ) → (b == 91) ≡ true → is_class_name (b ∷ bytes) ≡ false
no_class_name b bytes h = let e = eqb-true b 91 h in ap (λ c. is_class_name (c ∷ bytes)) e ∙ by (names_of bytes)
  where
    neither : (x y : Bool) → ((x && false) && y) ≡ false
    neither true y = refl
    neither false y = refl

    by : (names : List (List ℕ)) → list_all is_unqualified (with_first 91 names) ≡ false
    by [] = neither (nat_lt 0 1) true
    by (name ∷ names) = neither (nat_lt 0 (length (91 ∷ name))) (list_all is_unqualified names)

no_array : (text : Name) → is_class_name text ≡ true → is_array_class text ≡ false
no_array [] h = refl
no_array (b ∷ bytes) h = by (b == 91) refl
  where
    by : (x : Bool) → (b == 91) ≡ x → (b == 91) ≡ false
    by false e = e
    by true e = absurd (false≢true (sym (no_class_name b bytes e) ∙ h))

text_no_array : (e : Entry) → is_class_name (text_of e) ≡ true → is_array_class (unwrap_or (utf8_of e) []) ≡ false
text_no_array (Utf8 text) h = no_array text h
text_no_array _ h = refl

class_no_array : (pool : List Entry) (e : Entry) → is_class_name (class_text pool e) ≡ true → is_array_class (unwrap_or (class_name_of pool e) []) ≡ false
class_no_array pool (Class name) h = text_no_array (entry_at pool name) h
class_no_array pool _ h = refl

abbrev has_class_name : FileTree → Bool
has_class_name file = names_no_array file.pool file.this_class

built_in_named : list_all has_class_name built_in_classes ≡ true
unfolding built_in_classes
built_in_named = refl

file_named : (file : FileTree) → IsWhole file → has_class_name file ≡ true
file_named file whole =
    let pool = file.pool in
    let above = names_no_array pool file.super_class && (list_all (names_no_array pool) file.interfaces && member_names file) in
    let one = and_parts (list_all (entry_names pool) pool) (names_no_array pool file.this_class && above) whole.names in
    (and_parts (names_no_array pool file.this_class) above one.1).0

files_named : (files : Program) → AllByRecursion IsWhole files → AllByRecursion (λ file. has_class_name file ≡ true) files
files_named [] h = tt
files_named (file ∷ files) h = (file_named file h.0, files_named files h.1)

module _ (bytes : List (List ℕ)) (trees : Program) (linkable : IsLinkable bytes trees) (class : Name) (file : FileTree) (there : class_of trees class ≡ Some file) where
  class_named : has_class_name file ≡ true
  class_named =
      found_has (λ (f : FileTree). has_class_name f ≡ true) (is_named class) (classes_of trees) file
      (every_append (λ (f : FileTree). has_class_name f ≡ true) built_in_classes trees (every_all has_class_name built_in_classes built_in_named)
      (files_named trees (unrefused_of bytes trees linkable.spelled linkable.no_refusal).whole)) there

  is_no_array : is_array_class class ≡ false
  is_no_array =
      subst (λ n. is_array_class n ≡ false) (named_so trees class file there) (class_no_array file.pool (entry_at file.pool file.this_class) class_named)

  pub searched_is : searched_class class ≡ class
  searched_is = ap (λ b. if b then java_lang_object else class) is_no_array
