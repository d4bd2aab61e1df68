-- Classes that are tested.
use Rattle.std.proofs.Common.{◌≡◌, ◌∙◌, ℕ, zero, suc, ◌<◌, ◌^◌, List, [], ◌∷◌, ◌++◌, length, map, true, false, Option, Some, None, refl, sym, ap, subst, arith}
use Rattle.std.specs.Prelude.{slice_get, slice_index_or, ◌==◌}
use Rattle.std.specs.Option.{option_map_or}
use Rattle.std.specs.List.{flat_map, list_any}
use Rattle.std.proofs.lemmas.Bool.{or_left, or_right}
use Rattle.std.proofs.lemmas.Bool.Decides.{nat_tests}
use Rattle.std.proofs.lemmas.List.Folds.{list_any-append}
use Rattle.std.proofs.lemmas.Option.{slice_get_within}
use Rattle.model.specs.Classes.{Program, classes_of}
use Rattle.model.specs.ReferenceTypes.{ReferenceType}
use Rattle.linker.specs.Linking.{IsLinked}
use Rattle.linked_code.specs.declared.subclasses.Subclasses.{Subclasses}
use Rattle.linked_code.specs.declared.types.Element.{Element}
use Rattle.linked_code.specs.declared.types.Element.TheVariants as element
use Rattle.linked_code.specs.declared.types.LinkedType.{LinkedType}
use Rattle.linked_code.specs.Numbers.{IsType, IsTypeWith}
use Rattle.linked_code.specs.Subtypes.{IsTested, IsTestedElement}
use Rattle.types.specs.subclass_table.Columns.{is_tested}
use Rattle.linker.specs.linked_types.Tested.{class_of_element, tested_in, tested_in_row, HaveColumns}
use Rattle.linker.proofs.linked_types.Types.{few_classes}

pub flat_mapped : {A B : Type 0} (f : A → B) (g : B → List ℕ) (xs : List A) → flat_map (λ x. g (f x)) xs ≡ flat_map g (map f xs)
flat_mapped f g [] = refl
flat_mapped f g (x ∷ xs) = ap (λ (l : List ℕ). g (f x) ++ l) (flat_mapped f g xs)

-- ---- what is tested has a column

same_class : (class : ℕ) → (class == class) ≡ true
same_class class = grind (arith, nat_tests)

tested_among : {A : Type 0} (f : A → List ℕ) (xs : List A) (i : ℕ) (x : A) (class : ℕ) → slice_get xs i ≡ Some x
    → is_tested (f x) class ≡ true → is_tested (flat_map f xs) class ≡ true
tested_among f [] i x class at h = absurd cc
tested_among f (y ∷ xs) zero x class at h =
    let same : y ≡ x = cc in
    list_any-append (λ c. c == class) (f y) (flat_map f xs) ∙ or_left _ _ (subst (λ z. is_tested (f z) class ≡ true) (sym same) h)
tested_among f (y ∷ xs) (suc i) x class at h =
    list_any-append (λ c. c == class) (f y) (flat_map f xs) ∙ or_right (is_tested (f y) class) _ (tested_among f xs i x class at h)

module _ (files : Program) (table : Subclasses) (linked : IsLinked files) (tested : List ℕ) (columns : HaveColumns files tested table) where
  element_tested : (n : ℕ) (e : Element) (type : ReferenceType) → IsTypeWith files n e type
      → ((class : ℕ) → is_tested (class_of_element e) class ≡ true → is_tested tested class ≡ true) → IsTestedElement table e
  element_tested n (element.Class number) type is among =
      let within : number < length (classes_of files) = slice_get_within (classes_of files) number is.numbered.0 is.numbered.1 in
      let fits : number < 2 ^ 16 = omega (arith, within, few_classes files linked) in
      columns number within fits (among number (or_left (number == number) false (same_class number)))
  element_tested n (element.Primitive of) type is among = tt

  pub type_tested : (t : LinkedType) (type : ReferenceType) → IsType files t type
      → ((class : ℕ) → is_tested (tested_in t) class ≡ true → is_tested tested class ≡ true) → IsTested table t
  type_tested t type is among = element_tested t.dimensions t.element type is among

-- the list of all
module _ (rows : List (List (Option LinkedType))) (components : List LinkedType) (tested : List ℕ)
    (all : tested ≡ flat_map tested_in components ++ flat_map tested_in_row rows) where
  is_so : (class : ℕ) → is_tested tested class ≡ list_any (λ c. c == class) (flat_map tested_in components ++ flat_map tested_in_row rows)
  is_so class = ap (λ (l : List ℕ). is_tested l class) all

  pub component_among : (number : ℕ) (t : LinkedType) → slice_get components number ≡ Some t → (class : ℕ)
      → is_tested (tested_in t) class ≡ true → is_tested tested class ≡ true
  component_among number t at class h =
      is_so class ∙ list_any-append (λ c. c == class) (flat_map tested_in components) (flat_map tested_in_row rows) ∙ or_left _ _ (tested_among tested_in components number t class at h)

  -- the entry of an index
  entry_at : (row : List (Option LinkedType)) (index : ℕ) (t : LinkedType) → slice_index_or row index None ≡ Some t
      → slice_get row index ≡ Some (Some t)
  entry_at [] zero t e = absurd cc
  entry_at [] (suc index) t e = absurd cc
  entry_at (x ∷ row) zero t e = ap (λ (o : Option LinkedType). Some o) e
  entry_at (x ∷ row) (suc index) t e = entry_at row index t e

  pub row_among : (class : ℕ) (row : List (Option LinkedType)) → slice_get rows class ≡ Some row → (index : ℕ) (t : LinkedType)
      → slice_index_or row index None ≡ Some t → (c : ℕ) → is_tested (tested_in t) c ≡ true → is_tested tested c ≡ true
  row_among class row at index t e c h =
      is_so c ∙ list_any-append (λ x. x == c) (flat_map tested_in components) (flat_map tested_in_row rows)
      ∙ or_right (is_tested (flat_map tested_in components) c) _
      (tested_among tested_in_row rows class row c at
      (tested_among (λ (entry : Option LinkedType). option_map_or tested_in entry []) row index (Some t) c (entry_at row index t e) h))
