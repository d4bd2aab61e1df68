-- The first of classes that have different names.
use Rattle.std.proofs.Common.{◌≡◌, ◌∙◌, ℕ, zero, suc, false, List, [], ◌∷◌, refl, sym, ap, arith, Some}
use Rattle.std.specs.Prelude.{slice_get, ◌==◌}
use Rattle.std.specs.List.{list_any}
use Rattle.std.proofs.lemmas.Bool.{or_parts}
use Rattle.std.proofs.lemmas.Bool.Decides.{nat_tests}
use Rattle.model.specs.Names.{name_eq, java_lang_object}
use Rattle.model.specs.Tree.{FileTree}
use Rattle.model.specs.BuiltIn.{built_in_classes}
use Rattle.model.specs.built_in.Object.{object_class}
use Rattle.model.specs.Classes.{Program, name_of, is_named, classes_of}
use Rattle.model.specs.Linkable.{stands, TooLarge, DuplicateClass, OutsideProfile, MalformedCode, BadHierarchy, Unresolved, TooManyFields, NoMain, two_of_one_name, IsLinkable}
use Rattle.hierarchy.proofs.Apart.{all_differ}
use Rattle.hierarchy.proofs.Finding.{none_at}
use Rattle.hierarchy.proofs.RowLaws.{name_eq_refl}
use Rattle.linked_code.specs.Subtypes.{IsObjectFirst}

first_alone : (xs : List FileTree) (number : ℕ) (first file : FileTree) → two_of_one_name xs ≡ false → slice_get xs 0 ≡ Some first
    → slice_get xs number ≡ Some file
    → (number == 0) ≡ name_eq (name_of file) (name_of first)
first_alone [] number first file differ a b = absurd cc
first_alone (x ∷ xs) zero first file differ a b =
    let same : file ≡ first = cc in
    sym (ap (λ (f : FileTree). name_eq (name_of f) (name_of first)) same ∙ name_eq_refl (name_of first))
first_alone (x ∷ xs) (suc n) first file differ a b =
    let is : x ≡ first = cc in
    let none = (or_parts (list_any (is_named (name_of x)) xs) _ differ).0 in
    let later : (suc n == 0) ≡ false = grind (arith, nat_tests) in
    later ∙ sym (none_at (is_named (name_of x)) xs n file none b) ∙ ap (λ (f : FileTree). name_eq (name_of file) (name_of f)) is

module _ (bytes : List (List ℕ)) (files : Program) (linkable : IsLinkable bytes files) where
  -- no refusal stands: the last of them is that of two classes of one name
  differ : stands files DuplicateClass ≡ false
  differ =
      let a = (or_parts (stands files NoMain) _ linkable.no_refusal).1 in
      let b = (or_parts (stands files TooManyFields) _ a).1 in
      let c = (or_parts (stands files Unresolved) _ b).1 in
      let d = (or_parts (stands files BadHierarchy) _ c).1 in
      let e = (or_parts (stands files OutsideProfile) _ d).1 in
      let f = (or_parts (stands files MalformedCode) _ e).1 in
      let g = (or_parts (stands files TooLarge) _ f).1 in
      (or_parts (stands files DuplicateClass) _ g).0

  object_stands : slice_get (classes_of files) 0 ≡ Some object_class
  unfolding built_in_classes
  object_stands = refl

  pub object_first : IsObjectFirst files
  object_first number class i =
      first_alone (classes_of files) number object_class i.0 (all_differ files differ) object_stands i.1
      ∙ ap (λ n. name_eq n java_lang_object) i.2
