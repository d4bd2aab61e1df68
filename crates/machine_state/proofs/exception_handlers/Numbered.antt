-- The number of Error among the classes of linked files.
use Rattle.std.proofs.Common.{◌≡◌, ◌∙◌, ℕ, suc, zero, Bool, true, false, List, [], ◌∷◌, ◌++◌, refl, sym, ap, subst, arith, Some, if◌then◌else◌}
use Rattle.std.specs.Prelude.{drop, find, slice_get, is_some, nat_eq, ◌==◌}
use Rattle.std.specs.List.{list_any}
use Rattle.std.proofs.lemmas.Bool.{or_parts, or_from}
use Rattle.std.proofs.lemmas.Bool.Decides.{nat_tests}
use Rattle.model.specs.Names.{Name, name_eq, java_lang_error}
use Rattle.model.specs.Tree.{FileTree}
use Rattle.model.specs.BuiltIn.{built_in_classes}
use Rattle.model.specs.Classes.{Program, name_of, is_named, classes_of}
use Rattle.model.specs.Linkable.{IsLinkable, has_built_in_name, two_of_one_name}
use Rattle.run_laws.proofs.laws.Unrefused.{names_differ}
use Rattle.linked_code.specs.Numbers.{IsClassAt}

-- what is so of none isn't so of the one at a place
none_at : {A : Type 0} (test : A → Bool) (xs : List A) (k : ℕ) (x : A) → list_any test xs ≡ false → slice_get xs k ≡ Some x → test x ≡ false
none_at test [] k x h e = absurd cc
none_at test (y ∷ xs) zero x h e = let same : y ≡ x = cc in subst (λ z. test z ≡ false) same (or_parts (test y) _ h).0
none_at test (y ∷ xs) (suc k) x h e = none_at test xs k x (or_parts (test y) _ h).1 e

not_found_first : {A : Type 0} (test : A → Bool) (y : A) (xs : List A) → is_some (find test (y ∷ xs)) ≡ false
    → (test y ≡ false) × (is_some (find test xs) ≡ false)
not_found_first test y xs h = by (test y) h
  where
    by : (b : Bool) → is_some (if b then Some y else find test xs) ≡ false → (b ≡ false) × (is_some (find test xs) ≡ false)
    by true e = absurd cc
    by false e = (refl, e)

not_found_at : {A : Type 0} (test : A → Bool) (xs : List A) (k : ℕ) (x : A) → is_some (find test xs) ≡ false → slice_get xs k ≡ Some x
    → test x ≡ false
not_found_at test [] k x h e = absurd cc
not_found_at test (y ∷ xs) zero x h e = let same : y ≡ x = cc in subst (λ z. test z ≡ false) same (not_found_first test y xs h).0
not_found_at test (y ∷ xs) (suc k) x h e = not_found_at test xs k x (not_found_first test y xs h).1 e

same : {A : Type 0} {x y : A} → Some x ≡ Some y → x ≡ y
same e = cc

numbers_same : (m n : ℕ) → nat_eq m n ≡ nat_eq n m
numbers_same m n = grind (arith, nat_tests)

names_same : (a b : Name) → name_eq a b ≡ name_eq b a
names_same [] [] = refl
names_same [] (y ∷ b) = refl
names_same (x ∷ a) [] = refl
names_same (x ∷ a) (y ∷ b) = rw (numbers_same x y, names_same a b) refl

-- a file that has no name of a built-in class isn't named as Error is
no_error : (file : FileTree) → has_built_in_name file ≡ false → is_named java_lang_error file ≡ false
unfolding built_in_classes
no_error file h = names_same (name_of file) java_lang_error ∙ not_found_at (is_named (name_of file)) built_in_classes 8 _ h refl

no_errors : (files : Program) → list_any has_built_in_name files ≡ false → list_any (is_named java_lang_error) files ≡ false
no_errors [] h = refl
no_errors (file ∷ files) h =
    let both = or_parts (has_built_in_name file) _ h in
    or_from _ _ (no_error file both.0) (no_errors files both.1)

-- no class behind that place is named as Error
others : (files : Program) (n : ℕ) (file : FileTree) → list_any has_built_in_name files ≡ false
    → slice_get (drop 9 built_in_classes ++ files) n ≡ Some file → is_named java_lang_error file ≡ false
unfolding built_in_classes
others files n file h e = none_at (is_named java_lang_error) (drop 9 built_in_classes ++ files) n file (no_errors files h) e

module _ (bytes : List (List ℕ)) (files : Program) (linkable : IsLinkable bytes files) where
  by : (number : ℕ) (file : FileTree) → slice_get (classes_of files) number ≡ Some file → (number == 8) ≡ is_named java_lang_error file
  unfolding built_in_classes
  by zero file e = ap (is_named java_lang_error) (same e)
  by (suc zero) file e = ap (is_named java_lang_error) (same e)
  by (suc (suc zero)) file e = ap (is_named java_lang_error) (same e)
  by (suc (suc (suc zero))) file e = ap (is_named java_lang_error) (same e)
  by (suc (suc (suc (suc zero)))) file e = ap (is_named java_lang_error) (same e)
  by (suc (suc (suc (suc (suc zero))))) file e = ap (is_named java_lang_error) (same e)
  by (suc (suc (suc (suc (suc (suc zero)))))) file e = ap (is_named java_lang_error) (same e)
  by (suc (suc (suc (suc (suc (suc (suc zero))))))) file e = ap (is_named java_lang_error) (same e)
  by (suc (suc (suc (suc (suc (suc (suc (suc zero)))))))) file e = ap (is_named java_lang_error) (same e)
  by (suc (suc (suc (suc (suc (suc (suc (suc (suc n))))))))) file e =
      let later : (suc (suc (suc (suc (suc (suc (suc (suc (suc n)))))))) == 8) ≡ false = grind (arith, nat_tests) in
      later ∙ sym (others files n file (or_parts (two_of_one_name files) _ (names_differ files linkable.no_refusal)).1 e)

  -- the class of this number alone is Error
  pub error_is : (number : ℕ) (class : Name) → IsClassAt files number class → (number == 8) ≡ name_eq class java_lang_error
  error_is number class i = by number i.0 i.1 ∙ ap (λ n. name_eq n java_lang_error) i.2
