-- The classes of linked files: how many there are, and which of them are Object and String.
use Rattle.std.proofs.Common.{◌≡◌, ◌∙◌, ◌<◌, ◌≤◌, ◌^◌, ℕ, suc, zero, Bool, true, false, List, [], ◌∷◌, ◌++◌, length, refl, sym, ap, subst, arith, Some}
use Rattle.std.specs.Prelude.{drop, find, slice_get, is_some, nat_lt, nat_eq, ◌==◌, if◌then◌else◌}
use Rattle.std.specs.List.{list_any}
use Rattle.std.proofs.lemmas.Bool.{true≢false, or_parts, or_from}
use Rattle.std.proofs.lemmas.Bool.Decides.{nat_tests}
use Rattle.std.proofs.lemmas.Option.{slice_get_within, same_Some}
use Rattle.model.specs.Names.{Name, name_eq, java_lang_object, java_lang_string}
use Rattle.model.specs.Tree.{FileTree}
use Rattle.model.specs.BuiltInNumbers.{string_number}
use Rattle.model.specs.BuiltIn.{built_in_classes}
use Rattle.model.specs.built_in.Object.{object_class}
use Rattle.model.specs.Classes.{Program, name_of, is_named, classes_of}
use Rattle.model.specs.Linkable.{IsLinkable, has_built_in_name, two_of_one_name}
use Rattle.run_laws.proofs.laws.Unrefused.{names_differ, unrefused_of}
use Rattle.linked_code.specs.Numbers.{IsClassAt}
use Rattle.linked_code.specs.Subtypes.{IsObjectFirst}

-- what is so of none isn't so of the one at a place
none_at : {A : Type 0} (test : A → Bool) (xs : List A) (k : ℕ) (x : A) → list_any test xs ≡ false → slice_get xs k ≡ Some x → test x ≡ false
none_at test [] k x h e = absurd cc
none_at test (y ∷ xs) zero x h e = let same : y ≡ x = cc in subst (λ z. test z ≡ false) same (or_parts (test y) _ h).0
none_at test (y ∷ xs) (suc k) x h e = none_at test xs k x (or_parts (test y) _ h).1 e

numbers_same : (m n : ℕ) → nat_eq m n ≡ nat_eq n m
numbers_same m n = grind (arith, nat_tests)

names_same : (a b : Name) → name_eq a b ≡ name_eq b a
names_same [] [] = refl
names_same [] (y ∷ b) = refl
names_same (x ∷ a) [] = refl
names_same (x ∷ a) (y ∷ b) = rw (numbers_same x y, names_same a b) refl

-- ---- Object

first_not : {A : Type 0} (test : A → Bool) (x : A) (xs : List A) → is_some (find test (x ∷ xs)) ≡ false → test x ≡ false
first_not test x xs h = by (test x) h
  where
    by : (b : Bool) → is_some (if b then Some x else find test xs) ≡ false → b ≡ false
    by false e = refl
    by true e = absurd cc

-- a file that has no name of a built-in class isn't named as Object is
no_object : (file : FileTree) → has_built_in_name file ≡ false → is_named java_lang_object file ≡ false
unfolding built_in_classes
no_object file h = names_same (name_of file) java_lang_object ∙ first_not (is_named (name_of file)) object_class (drop 1 built_in_classes) h

no_objects : (files : Program) → list_any has_built_in_name files ≡ false → list_any (is_named java_lang_object) files ≡ false
no_objects [] h = refl
no_objects (file ∷ files) h =
    let both = or_parts (has_built_in_name file) _ h in
    or_from _ _ (no_object file both.0) (no_objects files both.1)

-- no class behind the first is named as Object is
others : (files : Program) (n : ℕ) (file : FileTree) → list_any has_built_in_name files ≡ false
    → slice_get (classes_of files) (suc n) ≡ Some file → is_named java_lang_object file ≡ false
unfolding built_in_classes
others files n file h e = none_at (is_named java_lang_object) (drop 1 built_in_classes ++ files) n file (no_objects files h) e

-- ---- String

-- what is not found is none of them
none_found : {A : Type 0} (test : A → Bool) (xs : List A) (k : ℕ) (x : A) → is_some (find test xs) ≡ false → slice_get xs k ≡ Some x
    → test x ≡ false
none_found test [] k x h e = absurd cc
none_found test (y ∷ xs) zero x h e = let same : y ≡ x = cc in subst (λ z. test z ≡ false) same (first_not test y xs h)
none_found test (y ∷ xs) (suc k) x h e = none_found test xs k x (later (test y) h) e
  where
    later : (b : Bool) → is_some (if b then Some y else find test xs) ≡ false → is_some (find test xs) ≡ false
    later false h = h
    later true h = absurd cc

no_string : (file : FileTree) → has_built_in_name file ≡ false → is_named java_lang_string file ≡ false
unfolding built_in_classes
no_string file h = names_same (name_of file) java_lang_string ∙ none_found (is_named (name_of file)) built_in_classes string_number _ h refl

no_strings : (files : Program) → list_any has_built_in_name files ≡ false → list_any (is_named java_lang_string) files ≡ false
no_strings [] h = refl
no_strings (file ∷ files) h =
    let both = or_parts (has_built_in_name file) _ h in
    or_from _ _ (no_string file both.0) (no_strings files both.1)

-- no class behind it is named so
other_strings : (files : Program) (n : ℕ) (file : FileTree) → list_any has_built_in_name files ≡ false
    → slice_get (classes_of files) (suc (suc (suc (suc n)))) ≡ Some file → is_named java_lang_string file ≡ false
unfolding built_in_classes
other_strings files n file h e = none_at (is_named java_lang_string) (drop 4 built_in_classes ++ files) n file (no_strings files h) e

module _ (bytes : List (List ℕ)) (files : Program) (linkable : IsLinkable bytes files) where
  -- a class has a number of 16 bits
  pub small : (number : ℕ) (class : Name) → IsClassAt files number class → number < 2 ^ 16
  unfolding built_in_classes
  small number class i =
      let within : number < length (classes_of files) = slice_get_within (classes_of files) number i.0 i.1 in
      let fit : nat_lt 65000 (length files) ≡ false = (unrefused_of bytes files linkable.spelled linkable.no_refusal).files_fit in
      let few : length files ≤ 65000 = grind (arith, nat_tests) in
      omega arith

  pub object_first : IsObjectFirst files
  unfolding built_in_classes
  object_first number class i = by number i.0 i.1 ∙ ap (λ n. name_eq n java_lang_object) i.2
    where
      by : (number : ℕ) (file : FileTree) → slice_get (classes_of files) number ≡ Some file → (number == 0) ≡ is_named java_lang_object file
      by zero file e = let is : object_class ≡ file = cc in ap (is_named java_lang_object) is
      by (suc n) file e =
          let later : (suc n == 0) ≡ false = grind (arith, nat_tests) in
          later ∙ sym (others files n file (or_parts (two_of_one_name files) _ (names_differ files linkable.no_refusal)).1 e)

  pub string_numbered : (number : ℕ) → IsClassAt files number java_lang_string → number ≡ string_number
  unfolding built_in_classes
  string_numbered number i = by number i.0 i.1 (ap (λ n. name_eq n java_lang_string) i.2)
    where
      differs : (one file : FileTree) → Some one ≡ Some file → is_named java_lang_string one ≡ false → is_named java_lang_string file ≡ true → ⊥
      differs one file e none h = true≢false (sym h ∙ ap (is_named java_lang_string) (sym (same_Some one file e)) ∙ none)

      by : (number : ℕ) (file : FileTree) → slice_get (classes_of files) number ≡ Some file → is_named java_lang_string file ≡ true
          → number ≡ string_number
      by zero file e h = absurd (differs _ file e refl h)
      by (suc zero) file e h = absurd (differs _ file e refl h)
      by (suc (suc zero)) file e h = absurd (differs _ file e refl h)
      by (suc (suc (suc zero))) file e h = refl
      by (suc (suc (suc (suc n)))) file e h =
          let behind = or_parts (two_of_one_name files) _ (names_differ files linkable.no_refusal) in
          absurd (true≢false (sym h ∙ other_strings files n file behind.1 e))
