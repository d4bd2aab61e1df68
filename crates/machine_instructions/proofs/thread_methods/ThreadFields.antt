-- The fields of Thread are the first of each object of Thread or of a class below it.
use Rattle.std.proofs.Common.{◌≡◌, ℕ, zero, suc, Bool, true, false, ltb, List, [], ◌∷◌, ◌++◌, length, reverse, Option, Some, refl, sym, ap, ◌∙◌, ⊎_elim, arith}
use Rattle.std.proofs.lemmas.Bool.{false≢true, or_cases}
use Rattle.std.proofs.lemmas.Bool.Decides.{nat_tests}
use Rattle.std.proofs.lemmas.List.{reverse-append}
use Rattle.std.proofs.lemmas.Grind.{flat_map-append}
use Rattle.std.specs.Prelude.{position}
use Rattle.std.specs.Option.{option_map_or}
use Rattle.std.specs.List.{flat_map}
use Rattle.model.specs.Names.{Name, Member, name_eq, member_eq, java_lang_object, java_lang_string, java_lang_thread, thread_target, thread_name, thread_ordinal, thread_priority}
use Rattle.model.specs.BuiltIn.{built_in_classes}
use Rattle.model.specs.Classes.{Program, superclass_of, classes_of, is_within, is_subclass, lineage_of}
use Rattle.model.specs.Lookup.{own_instance_fields, instance_fields}
use Rattle.model.specs.State.{ObjectOf, Instance, Primitives, References, Characters}
use Rattle.run_laws.specs.laws.Steps.{ends, Rooted}
use Rattle.run_laws.proofs.laws.Classes.{names_same}
use Rattle.run_laws.proofs.laws.RootedOf.{ends_above, on_super_of}
use Rattle.linked_code.specs.Numbers.{slot_in}
use Rattle.run_laws.specs.word_operands.Receivers.{has_class_below}

-- ---- first in a list

abbrev Begins : List Member → Type 0
Begins fields = (rest : List Member) × (fields ≡ thread_target ∷ thread_name ∷ thread_ordinal ∷ thread_priority ∷ rest)

zero_lt : (n : ℕ) → ltb 0 (suc n) ≡ true
zero_lt n = grind (arith, nat_tests)

first : {A : Type 0} (p : A → Bool) (x : A) (xs : List A) → p x ≡ true → position p (x ∷ xs) ≡ Some 0
first p x xs h = rw (h, zero_lt (length xs)) refl

one_lt : (n : ℕ) → ltb 1 (suc (suc n)) ≡ true
one_lt n = grind (arith, nat_tests)

second : {A : Type 0} (p : A → Bool) (x y : A) (xs : List A) → p x ≡ false → p y ≡ true → position p (x ∷ y ∷ xs) ≡ Some 1
second p x y xs h k = rw (h, k, one_lt (length xs)) refl

two_lt : (n : ℕ) → ltb 2 (suc (suc (suc n))) ≡ true
two_lt n = grind (arith, nat_tests)

third : {A : Type 0} (p : A → Bool) (x y z : A) (xs : List A) → p x ≡ false → p y ≡ false → p z ≡ true → position p (x ∷ y ∷ z ∷ xs) ≡ Some 2
third p x y z xs h k l = rw (h, k, l, two_lt (length xs)) refl

module _ (files : Program) where
  abbrev fields_to : ℕ → Name → List Member
  fields_to n c = flat_map (own_instance_fields files) (reverse (lineage_of files n c))

  -- those of the superclass come before
  before : (n : ℕ) (c s : Name) → superclass_of files c ≡ Some s → Begins (fields_to n s) → Begins (fields_to (suc n) c)
  before n c s q b = (
    b.0 ++ flat_map (own_instance_fields files) (c ∷ []),
    ap (λ (o : Option Name). flat_map (own_instance_fields files) (reverse (c ∷ option_map_or (λ x. lineage_of files n x) o []))) q
        ∙ ap (flat_map (own_instance_fields files)) (reverse-append (c ∷ []) (lineage_of files n s))
        ∙ flat_map-append (own_instance_fields files) (reverse (lineage_of files n s)) (c ∷ [])
        ∙ ap (λ (l : List Member). l ++ flat_map (own_instance_fields files) (c ∷ [])) b.1,
  )

  of_thread : (n : ℕ) → fields_to (suc n) java_lang_thread ≡ thread_target ∷ thread_name ∷ thread_ordinal ∷ thread_priority ∷ []
  unfolding built_in_classes
  of_thread zero = refl
  of_thread (suc n) = refl

  thread_ends : (n : ℕ) → ends files (suc n) java_lang_thread ≡ ends files n java_lang_object
  unfolding built_in_classes
  thread_ends n = refl

  begins : (k n : ℕ) (c : Name) → ends files (suc n) c ≡ true → is_within files k c java_lang_thread ≡ true → Begins (fields_to n c)
  begins k zero c e w = absurd (none k w)
    where
      at_top : c ≡ java_lang_thread → ⊥
      at_top q = false≢true (sym (thread_ends zero) ∙ ap (ends files (suc zero)) (sym q) ∙ e)

      none : (k : ℕ) → is_within files k c java_lang_thread ≡ true → ⊥
      none zero w = at_top (names_same c java_lang_thread w)
      none (suc k) w =
          ⊎_elim (λ h. at_top (names_same c java_lang_thread h))
          (λ h. on_super_of files (λ x. is_within files k x java_lang_thread) c ⊥ (λ s q v. false≢true (ends_above files zero c s q e)) (superclass_of files c) refl h)
          (or_cases (name_eq c java_lang_thread) _ w)
  begins zero (suc n) c e w = at_thread n c (names_same c java_lang_thread w)
    where
      at_thread : (n : ℕ) (c : Name) → c ≡ java_lang_thread → Begins (fields_to (suc n) c)
      at_thread n c q = ([], ap (fields_to (suc n)) q ∙ of_thread n)
  begins (suc k) (suc n) c e w =
      ⊎_elim (λ h. ([], ap (fields_to (suc n)) (names_same c java_lang_thread h) ∙ of_thread n))
      (λ h. on_super_of files (λ x. is_within files k x java_lang_thread) c (Begins (fields_to (suc n) c))
      (λ s q v. before n c s q (begins k n s (ends_above files (suc n) c s q e) v)) (superclass_of files c) refl h)
      (or_cases (name_eq c java_lang_thread) _ w)

  module _ (rooted : Rooted files) (class : Name) (below : is_subclass files class java_lang_thread ≡ true) where
    fields_begin : Begins (instance_fields files class)
    fields_begin = begins (length (classes_of files)) (length (classes_of files)) class (rooted class) below

    pub target_slot : slot_in (instance_fields files class) thread_target ≡ Some 0
    target_slot =
        ap (λ (fields : List Member). slot_in fields thread_target) fields_begin.1
        ∙ first (λ (f : Member). member_eq f thread_target) thread_target (thread_name ∷ thread_ordinal ∷ thread_priority ∷ fields_begin.0) refl

    pub name_slot : slot_in (instance_fields files class) thread_name ≡ Some 1
    name_slot =
        ap (λ (fields : List Member). slot_in fields thread_name) fields_begin.1
        ∙ second (λ (f : Member). member_eq f thread_name) thread_target thread_name (thread_ordinal ∷ thread_priority ∷ fields_begin.0) refl refl

    pub ordinal_slot : slot_in (instance_fields files class) thread_ordinal ≡ Some 2
    ordinal_slot =
        ap (λ (fields : List Member). slot_in fields thread_ordinal) fields_begin.1
        ∙ third (λ (f : Member). member_eq f thread_ordinal) thread_target thread_name thread_ordinal (thread_priority ∷ fields_begin.0) refl refl refl

  -- an array is no Thread
  object_below : is_subclass files java_lang_object java_lang_thread ≡ false
  unfolding built_in_classes
  object_below = refl

  -- nor is a String
  string_below : is_subclass files java_lang_string java_lang_thread ≡ false
  unfolding built_in_classes
  string_below = refl

  -- the instance that a Thread is
  pub instance : (object : ObjectOf ℕ) → has_class_below files java_lang_thread object ≡ true
      → (class : Name) × ((fields : List (Member × ℕ)) × (object ≡ Instance class fields)
      × (is_subclass files class java_lang_thread ≡ true))
  instance (Instance class fields) h = (class, (fields, refl, h))
  instance (Primitives of elements) h = absurd (false≢true (sym object_below ∙ h))
  instance (References of elements) h = absurd (false≢true (sym object_below ∙ h))
  instance (Characters text) h = absurd (false≢true (sym string_below ∙ h))
