-- The fields of Throwable are the first of each object of Throwable or of a class below it.
use Rattle.std.proofs.Common.{◌≡◌, ℕ, zero, suc, Bool, true, false, ltb, List, [], ◌∷◌, ◌++◌, length, reverse, Option, Some, refl, sym, ap, ◌∙◌, ⊎_elim, arith}
use Rattle.std.proofs.lemmas.Bool.{false≢true, or_cases}
use Rattle.std.proofs.lemmas.Bool.Decides.{nat_tests}
use Rattle.std.proofs.lemmas.List.{reverse-append}
use Rattle.std.proofs.lemmas.Grind.{flat_map-append}
use Rattle.std.specs.Prelude.{position}
use Rattle.std.specs.Option.{option_map_or}
use Rattle.std.specs.List.{flat_map}
use Rattle.model.specs.Names.{Name, Member, name_eq, member_eq, java_lang_object, java_lang_string, java_lang_throwable, throwable_message, throwable_cause, throwable_suppressed}
use Rattle.model.specs.BuiltIn.{built_in_classes}
use Rattle.model.specs.Classes.{Program, superclass_of, classes_of, is_within, is_subclass, lineage_of}
use Rattle.model.specs.Lookup.{own_instance_fields, instance_fields}
use Rattle.model.specs.State.{ObjectOf, Instance, Primitives, References, Characters}
use Rattle.run_laws.specs.laws.Steps.{ends, Rooted}
use Rattle.run_laws.proofs.laws.Classes.{names_same}
use Rattle.run_laws.proofs.laws.RootedOf.{ends_above, on_super_of}
use Rattle.linked_code.specs.Numbers.{slot_in}
use Rattle.run_laws.specs.word_operands.Receivers.{has_class_below}

-- ---- first in a list

abbrev Begins : List Member → Type 0
Begins fields = (rest : List Member) × (fields ≡ throwable_message ∷ throwable_cause ∷ throwable_suppressed ∷ rest)

zero_lt : (n : ℕ) → ltb 0 (suc n) ≡ true
zero_lt n = grind (arith, nat_tests)

first : {A : Type 0} (p : A → Bool) (x : A) (xs : List A) → p x ≡ true → position p (x ∷ xs) ≡ Some 0
first p x xs h = rw (h, zero_lt (length xs)) refl

one_lt : (n : ℕ) → ltb 1 (suc (suc n)) ≡ true
one_lt n = grind (arith, nat_tests)

second : {A : Type 0} (p : A → Bool) (x y : A) (xs : List A) → p x ≡ false → p y ≡ true → position p (x ∷ y ∷ xs) ≡ Some 1
second p x y xs h k = rw (h, k, one_lt (length xs)) refl

module _ (files : Program) where
  abbrev fields_to : ℕ → Name → List Member
  fields_to n c = flat_map (own_instance_fields files) (reverse (lineage_of files n c))

  -- those of the superclass come before
  before : (n : ℕ) (c s : Name) → superclass_of files c ≡ Some s → Begins (fields_to n s) → Begins (fields_to (suc n) c)
  before n c s q b = (
    b.0 ++ flat_map (own_instance_fields files) (c ∷ []),
    ap (λ (o : Option Name). flat_map (own_instance_fields files) (reverse (c ∷ option_map_or (λ x. lineage_of files n x) o []))) q
        ∙ ap (flat_map (own_instance_fields files)) (reverse-append (c ∷ []) (lineage_of files n s))
        ∙ flat_map-append (own_instance_fields files) (reverse (lineage_of files n s)) (c ∷ [])
        ∙ ap (λ (l : List Member). l ++ flat_map (own_instance_fields files) (c ∷ [])) b.1,
  )

  of_throwable : (n : ℕ) → fields_to (suc n) java_lang_throwable ≡ throwable_message ∷ throwable_cause ∷ throwable_suppressed ∷ []
  unfolding built_in_classes
  of_throwable zero = refl
  of_throwable (suc n) = refl

  throwable_ends : (n : ℕ) → ends files (suc n) java_lang_throwable ≡ ends files n java_lang_object
  unfolding built_in_classes
  throwable_ends n = refl

  begins : (k n : ℕ) (c : Name) → ends files (suc n) c ≡ true → is_within files k c java_lang_throwable ≡ true → Begins (fields_to n c)
  begins k zero c e w = absurd (none k w)
    where
      at_top : c ≡ java_lang_throwable → ⊥
      at_top q = false≢true (sym (throwable_ends zero) ∙ ap (ends files (suc zero)) (sym q) ∙ e)

      none : (k : ℕ) → is_within files k c java_lang_throwable ≡ true → ⊥
      none zero w = at_top (names_same c java_lang_throwable w)
      none (suc k) w =
          ⊎_elim (λ h. at_top (names_same c java_lang_throwable h))
          (λ h. on_super_of files (λ x. is_within files k x java_lang_throwable) c ⊥ (λ s q v. false≢true (ends_above files zero c s q e)) (superclass_of files c) refl h)
          (or_cases (name_eq c java_lang_throwable) _ w)
  begins zero (suc n) c e w = at_throwable n c (names_same c java_lang_throwable w)
    where
      at_throwable : (n : ℕ) (c : Name) → c ≡ java_lang_throwable → Begins (fields_to (suc n) c)
      at_throwable n c q = ([], ap (fields_to (suc n)) q ∙ of_throwable n)
  begins (suc k) (suc n) c e w =
      ⊎_elim (λ h. ([], ap (fields_to (suc n)) (names_same c java_lang_throwable h) ∙ of_throwable n))
      (λ h. on_super_of files (λ x. is_within files k x java_lang_throwable) c (Begins (fields_to (suc n) c))
      (λ s q v. before n c s q (begins k n s (ends_above files (suc n) c s q e) v)) (superclass_of files c) refl h)
      (or_cases (name_eq c java_lang_throwable) _ w)

  module _ (rooted : Rooted files) (class : Name) (below : is_subclass files class java_lang_throwable ≡ true) where
    fields_begin : Begins (instance_fields files class)
    fields_begin = begins (length (classes_of files)) (length (classes_of files)) class (rooted class) below

    pub message_slot : slot_in (instance_fields files class) throwable_message ≡ Some 0
    message_slot =
        ap (λ (fields : List Member). slot_in fields throwable_message) fields_begin.1
        ∙ first (λ (f : Member). member_eq f throwable_message) throwable_message (throwable_cause ∷ throwable_suppressed ∷ fields_begin.0) refl

    pub cause_slot : slot_in (instance_fields files class) throwable_cause ≡ Some 1
    cause_slot =
        ap (λ (fields : List Member). slot_in fields throwable_cause) fields_begin.1
        ∙ second (λ (f : Member). member_eq f throwable_cause) throwable_message throwable_cause (throwable_suppressed ∷ fields_begin.0) refl refl

  -- an array is no Throwable
  object_below : is_subclass files java_lang_object java_lang_throwable ≡ false
  unfolding built_in_classes
  object_below = refl

  -- nor is a String
  string_below : is_subclass files java_lang_string java_lang_throwable ≡ false
  unfolding built_in_classes
  string_below = refl

  -- the instance that a Throwable is
  pub instance : (object : ObjectOf ℕ) → has_class_below files java_lang_throwable object ≡ true
      → (class : Name) × ((fields : List (Member × ℕ)) × (object ≡ Instance class fields)
      × (is_subclass files class java_lang_throwable ≡ true))
  instance (Instance class fields) h = (class, (fields, refl, h))
  instance (Primitives of elements) h = absurd (false≢true (sym object_below ∙ h))
  instance (References of elements) h = absurd (false≢true (sym object_below ∙ h))
  instance (Characters text) h = absurd (false≢true (sym string_below ∙ h))
