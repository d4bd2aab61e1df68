-- What an object tells of itself: the class of an object that is there has a Class object, and the methods have these types.
use Rattle.std.proofs.Common.{◌≡◌, ℕ, zero, suc, [], ◌∷◌, length, true, false, Option, Some, None, refl, sym, ap, ◌∙◌, subst, ⊎_elim}
use Rattle.std.specs.Prelude.{codes}
use Rattle.std.specs.List.{list_any}
use Rattle.std.specs.Option.{option_and_then, option_map_or}
use Rattle.std.proofs.lemmas.Bool.{false≢true, or_cases}
use Rattle.model.specs.Names.{Name, name_eq, java_lang_object, java_lang_class, string_described}
use Rattle.model.specs.BuiltIn.{built_in_classes}
use Rattle.model.specs.Tree.{FileTree}
use Rattle.model.specs.Classes.{Program, class_of, classes_of, is_named, is_within, is_subclass, super_name_of}
use Rattle.model.specs.DescriptorScan.{method_type, field_type, parameters_at, field_at, element_at}
use Rattle.model.specs.ReferenceTypes.{ReferenceType, ClassType}
use Rattle.model.specs.Types.{VerificationType, IntType, OfType}
use Rattle.model.specs.Calls.{result_types}
use Rattle.model.specs.declared.object_method.ObjectMethod.TheVariants.{HashCode, IdentityHashCode, ClassName, Described}
use Rattle.model.specs.ObjectMethods.{ObjectAnswer, IsNull, HasNoClass, Answers, IsOf, Composes, object_answer}
use Rattle.model.specs.BuiltInMethods.{of_object, of_system, of_class_object}
use Rattle.run_laws.proofs.laws.Found.{found_any, found_passes}
use Rattle.run_laws.proofs.laws.Classes.{names_same}
use Rattle.run_laws.proofs.typed_runs.Builders.{Shaped, a_string}

-- ---- the class of an object

object_there : (files : Program) → list_any (is_named java_lang_object) (classes_of files) ≡ true
unfolding built_in_classes
object_there files = refl

-- what is Object or below it is there
within_there : (files : Program) (n : ℕ) (class : Name) → is_within files n class java_lang_object ≡ true
    → list_any (is_named class) (classes_of files) ≡ true
within_there files n class h = by (class_of files class) refl
  where
    is_object : name_eq class java_lang_object ≡ true → list_any (is_named class) (classes_of files) ≡ true
    is_object q = subst (λ c. list_any (is_named c) (classes_of files) ≡ true) (sym (names_same class java_lang_object q)) (object_there files)

    alone : (m : ℕ) → class_of files class ≡ None → is_within files m class java_lang_object ≡ true → name_eq class java_lang_object ≡ true
    alone zero e q = q
    alone (suc m) e q =
        ⊎_elim (λ same. same)
        (λ above. absurd (false≢true (sym (ap (λ o. option_map_or (λ s. is_within files m s java_lang_object) (option_and_then super_name_of o) false) e) ∙ above)))
        (or_cases (name_eq class java_lang_object) _ q)

    by : (o : Option FileTree) → class_of files class ≡ o → list_any (is_named class) (classes_of files) ≡ true
    by None e = is_object (alone n e h)
    by (Some file) e = found_any (is_named class) (is_named class) (classes_of files) file e (found_passes (is_named class) (classes_of files) file e)

pub class_is_there : (files : Program) (class : Name) → is_subclass files class java_lang_object ≡ true
    → list_any (is_named class) (classes_of files) ≡ true
class_is_there files class h = within_there files (length (classes_of files)) class h

-- ---- what the methods take and give

abbrev pub an_object : VerificationType
an_object = OfType (ClassType java_lang_object)

abbrev pub a_class : VerificationType
a_class = OfType (ClassType java_lang_class)

module _ (files : Program) where
  pub hash_code : Shaped files (of_object (codes "hashCode") (codes "()I")) (an_object ∷ []) (IntType ∷ []) 0
  unfolding method_type parameters_at field_at element_at field_type built_in_classes
  hash_code = record { takes = refl; gives = refl; receiver = refl; count = refl }

  pub get_class : Shaped files (of_object (codes "getClass") (codes "()Ljava/lang/Class;")) (an_object ∷ []) (a_class ∷ []) 0
  unfolding method_type parameters_at field_at element_at field_type built_in_classes
  get_class = record { takes = refl; gives = refl; receiver = refl; count = refl }

  pub identity_results : result_types files (of_system (codes "identityHashCode") (codes "(Ljava/lang/Object;)I")) ≡ IntType ∷ []
  unfolding method_type parameters_at field_at element_at field_type
  identity_results = refl

  pub name_results : result_types files (of_class_object (codes "getName") (codes "()Ljava/lang/String;")) ≡ a_string ∷ []
  unfolding method_type parameters_at field_at element_at field_type built_in_classes
  name_results = refl

  pub described_results : result_types files string_described ≡ a_string ∷ []
  unfolding method_type parameters_at field_at element_at field_type built_in_classes
  described_results = refl

-- ---- kinds of answers

abbrev pub IsIntTold : ObjectAnswer → Type 0
IsIntTold IsNull = Unit {0}
IsIntTold HasNoClass = Unit {0}
IsIntTold (Answers bits) = Unit {0}
IsIntTold (IsOf class) = ⊥
IsIntTold (Composes text) = ⊥

abbrev pub IsTextTold : ObjectAnswer → Type 0
IsTextTold IsNull = Unit {0}
IsTextTold HasNoClass = Unit {0}
IsTextTold (Answers bits) = ⊥
IsTextTold (IsOf class) = ⊥
IsTextTold (Composes text) = Unit {0}

module _ (files : Program) (type : ℕ → ReferenceType) (int : ℕ) where
  pub hash_told : (o : Option ℕ) → IsIntTold (object_answer files HashCode o type int)
  hash_told None = tt
  hash_told (Some object) = tt

  pub identity_told : (o : Option ℕ) → IsIntTold (object_answer files IdentityHashCode o type int)
  identity_told None = tt
  identity_told (Some object) = tt

  pub name_told : (o : Option ℕ) → IsTextTold (object_answer files ClassName o type int)
  name_told None = tt
  name_told (Some object) = tt

  pub described_told : (o : Option ℕ) → IsTextTold (object_answer files Described o type int)
  described_told None = tt
  described_told (Some object) = tt
