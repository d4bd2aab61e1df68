-- Classes and arrays by their numbers.
use Rattle.std.proofs.Common.{◌≡◌, ◌∙◌, ℕ, ◌<◌, ◌≤◌, ◌^◌, length, true, false, Option, Some, None, refl, sym, ap, subst, arith}
use Rattle.std.specs.Prelude.{slice_get, nat_lt}
use Rattle.std.proofs.lemmas.Bool.Decides.{nat_tests}
use Rattle.model.specs.Names.{Name}
use Rattle.model.specs.Tree.{FileTree}
use Rattle.model.specs.Classes.{Program, classes_of, is_named}
use Rattle.model.specs.Descriptors.{Object}
use Rattle.model.specs.ReferenceTypes.{ClassType}
use Rattle.model.specs.DescribedTypes.{DeclaredReference, arrays, declared_with, reference_declared}
use Rattle.run_laws.proofs.laws.Unrefused.{unrefused_of}
use Rattle.linker.specs.Linking.{IsLinked}
use Rattle.constant_pool.specs.declared.descriptors.field.Element as declared_element
use Rattle.constant_pool.specs.descriptors.View.{element_of}
use Rattle.hierarchy.specs.Places.{place_of}
use Rattle.hierarchy.proofs.SetLaws.{name_at_place, no_item}
use Rattle.hierarchy.proofs.Finding.{position_within}
use Rattle.hierarchy.proofs.Indices.{count_behind}
use Rattle.types.specs.described_types.Described.{type_missing}
use Rattle.types.proofs.described_types.Arrays.{arrays_missing, declared_class}
use Rattle.types.proofs.described_types.Places.{missing_there}
use Rattle.linked_code.specs.declared.types.LinkedType.{LinkedType}
use Rattle.linked_code.specs.Numbers.{IsClassAt, IsClassOf}
use Rattle.linker.specs.linked_types.Types.{IsNumbered}

not_over : (m n : ℕ) → nat_lt m n ≡ false → n ≤ m
not_over m n h = grind (arith, nat_tests)

pub few_classes : (files : Program) → IsLinked files → length (classes_of files) ≤ 65037
few_classes files linked =
    let few : length files ≤ 65000 = not_over 65000 (length files) (unrefused_of linked.0 files linked.1.spelled linked.1.no_refusal).files_fit in
    omega (arith, few, count_behind files)

module _ (files : Program) (name : Name) where
  -- ---- classes

  pub class_fits : IsLinked files → (place : ℕ) → place_of files name ≡ Some place → place < 2 ^ 16
  class_fits linked place e = omega (arith, few_classes files linked, position_within (is_named name) (classes_of files) place e)

  pub class_there : (place : ℕ) → place_of files name ≡ Some place → IsClassAt files place name
  class_there place e = by (slice_get (classes_of files) place) refl
    where
      by : (o : Option FileTree) → slice_get (classes_of files) place ≡ o → IsClassAt files place name
      by None at = absurd (no_item (classes_of files) place (position_within (is_named name) (classes_of files) place e) at)
      by (Some file) at = (file, at, name_at_place files name place file e at)

  pub class_numbered : (n place : ℕ) → place_of files name ≡ Some place → IsClassOf files n place (arrays n (ClassType name))
  class_numbered n place e = record { class = name; numbered = class_there place e; is = refl }

  pub class_missing : (n : ℕ) → place_of files name ≡ None → type_missing files (arrays n (ClassType name)) ≡ true
  class_missing n e = arrays_missing files n (ClassType name) ∙ missing_there files name e

  -- ---- descriptors

  module _ (n : ℕ) (e x : declared_element.Element) (result : Option LinkedType) (is : e ≡ x) where
    pub class_described : (class : Name) → element_of x ≡ Object class → IsNumbered files (arrays n (ClassType class)) result
        → IsNumbered files (reference_declared name (declared_with n (element_of e))) result
    class_described class named h =
        let same : declared_with n (element_of e) ≡ DeclaredReference (arrays n (ClassType class)) = ap (λ e. declared_with n (element_of e)) is ∙ ap (declared_with n) named ∙ declared_class n class in
        subst (λ d. IsNumbered files (reference_declared name d) result) (sym same) h
