-- The Class object of the class that declares a method.
use Rattle.std.proofs.Common.{◌≡◌, ◌<◌, ◌≤◌, ◌+◌, ◌-◌, ℕ, zero, suc, List, [], ◌∷◌, ◌++◌, length, Bool, true, false, Some, None, refl, sym, ap, subst, ◌∙◌, arith}
use Rattle.std.specs.Prelude.{slice_get, nat_lt}
use Rattle.std.specs.List.{position_or_len}
use Rattle.std.proofs.lemmas.Bool.{true≢false, ltb-true, ltb-false}
use Rattle.std.proofs.lemmas.Option.{same_Some}
use Rattle.model.specs.Names.{Name, Member}
use Rattle.model.specs.Tree.{FileTree}
use Rattle.model.specs.BuiltIn.{built_in_classes}
use Rattle.model.specs.Classes.{Program, name_of, is_named, is_built_in, classes_of}
use Rattle.model.specs.Linkable.{some_stands, two_of_one_name}
use Rattle.model.specs.Opening.{class_reference}
use Rattle.run_laws.proofs.laws.Classes.{names_same, name_self}
use Rattle.machine_state.proofs.class_initialisation.Named.{one_place, files_differ, is_so, is_not, file_at}
use Rattle.linked_code.specs.declared.method.LinkedMethod.{LinkedMethod}
use Rattle.linked_code.specs.declared.program.LinkedProgram.{LinkedProgram}
use Rattle.linked_code.specs.Methods.{IsLinkedMethod}
use Rattle.linked_code.specs.Numbers.{IsClassAt, IsMethodAt}
use Rattle.machine_state.specs.Shown.{IsProgram}
use Rattle.machine_state.specs.method_selection.Rows.{HasMethod, AreMethodsRead}

-- ---- lists

front : {A : Type 0} (xs ys : List A) (k : ℕ) → k < length xs → slice_get (xs ++ ys) k ≡ slice_get xs k
front [] ys k h = absurd (omega arith)
front (x ∷ xs) ys zero h = refl
front (x ∷ xs) ys (suc k) h = front xs ys k (omega arith)

-- where one alone passes, it is the first
module _ {A : Type 0} where
  only_at : (test : A → Bool) (xs : List A) (k : ℕ) (x : A) → slice_get xs k ≡ Some x → test x ≡ true
      → ((j : ℕ) (y : A) → slice_get xs j ≡ Some y → test y ≡ true → j ≡ k) → position_or_len test xs ≡ k
  only_at test [] k x at passes only = absurd cc
  only_at test (y ∷ ys) zero x at passes only = let same : y ≡ x = cc in rw (same, passes) refl
  only_at test (y ∷ ys) (suc k) x at passes only = by (λ u. only_at test ys k x at passes u) (test y) refl
    where
      by : (((j : ℕ) (z : A) → slice_get ys j ≡ Some z → test z ≡ true → j ≡ k) → position_or_len test ys ≡ k) → (b : Bool) → test y ≡ b
          → position_or_len test (y ∷ ys) ≡ suc k
      by rest true e = let first = only 0 y refl e in absurd (omega (arith, first))
      by rest false e =
          let later = rest (λ j z q h. let s = only (suc j) z q h in omega (arith, s)) in
          rw e (omega (arith, later))

-- ---- classes

built_in_differ : two_of_one_name built_in_classes ≡ false
unfolding built_in_classes
built_in_differ = refl

built_in_count : length built_in_classes ≡ 37
unfolding built_in_classes
built_in_count = refl

module _ (trees : Program) (linkable : some_stands trees ≡ false) where
  one_number : (k j : ℕ) (f g : FileTree) → slice_get (classes_of trees) k ≡ Some f → slice_get (classes_of trees) j ≡ Some g
      → name_of f ≡ name_of g → j ≡ k
  one_number k j f g at there same = by (nat_lt k 37) (nat_lt j 37) refl refl
    where
      apart : {P : Type 0} → is_built_in (name_of f) ≡ true → is_built_in (name_of g) ≡ false → P
      apart b n = absurd (true≢false (sym b ∙ ap is_built_in same ∙ n))

      within : (n : ℕ) → n < 37 → n < length built_in_classes
      within n h = subst (λ m. n < m) (sym built_in_count) h

      behind : (n : ℕ) → 37 ≤ n → n ≡ 37 + (n - 37)
      behind n h = omega (arith, h)

      at_behind : (n : ℕ) (file : FileTree) → 37 ≤ n → slice_get (classes_of trees) n ≡ Some file
          → slice_get (classes_of trees) (37 + (n - 37)) ≡ Some file
      at_behind n file h e = subst (λ m. slice_get (classes_of trees) m ≡ Some file) (behind n h) e

      by : (b c : Bool) → nat_lt k 37 ≡ b → nat_lt j 37 ≡ c → j ≡ k
      by true true p q =
          one_place built_in_classes built_in_differ j k g f
          (sym (front built_in_classes trees j (within j (ltb-true j 37 q))) ∙ there) (sym (front built_in_classes trees k (within k (ltb-true k 37 p))) ∙ at) (sym same)
      by true false p q = apart (is_so trees linkable k (ltb-true k 37 p) f at) (is_not trees linkable (j - 37) g (at_behind j g (ltb-false j 37 q) there))
      by false true p q =
          absurd (true≢false (sym (is_so trees linkable j (ltb-true j 37 q) g there) ∙ ap is_built_in (sym same) ∙ is_not trees linkable (k - 37) f (at_behind k f (ltb-false k 37 p) at)))
      by false false p q =
          let one = one_place trees (files_differ trees linkable) (j - 37) (k - 37) g f (file_at trees linkable (j - 37) g (at_behind j g (ltb-false j 37 q) there)) (file_at trees linkable (k - 37) f (at_behind k f (ltb-false k 37 p) at)) (sym same) in
          behind j (ltb-false j 37 q) ∙ ap (λ (n : ℕ). 37 + n) one ∙ sym (behind k (ltb-false k 37 p))

  pub reference_is : (number : ℕ) (class : Name) → IsClassAt trees number class → 3 + number ≡ class_reference trees class
  reference_is number class at =
      ap (λ (n : ℕ). 3 + n) (sym (only_at (is_named class) (classes_of trees) number at.0 at.1 (subst (λ n. is_named n at.0 ≡ true) at.2 (is_named_self (name_of at.0) at.0 refl))
      (λ j y q h. one_number number j at.0 y at.1 q (at.2 ∙ sym (named y h)))))
    where
      is_named_self : (n : Name) (file : FileTree) → name_of file ≡ n → is_named n file ≡ true
      is_named_self n file e = subst (λ m. is_named m file ≡ true) e (name_self (name_of file))

      named : (file : FileTree) → is_named class file ≡ true → name_of file ≡ class
      named file h = names_same (name_of file) class h

-- ---- a method

module _ (read : AreMethodsRead) (trees : Program) (p : LinkedProgram) (program : IsProgram trees p) (number : ℕ) (callee : Member)
    (at : IsMethodAt trees number callee) where
  has : HasMethod trees p number callee
  has = read trees p program.linked number callee at

  pub missing : slice_get p.methods.items number ≡ None → ⊥
  missing none = let e = sym has.is ∙ none in cc

  pub class_object_is : (row : LinkedMethod) → slice_get p.methods.items number ≡ Some row → (object : ℕ) → object ≡ 3 + row.class
      → object ≡ class_reference trees callee.class
  class_object_is row is_row object e =
      let linked = subst (IsLinkedMethod trees p callee) (same_Some _ _ (sym has.is ∙ is_row)) has.linked in
      e ∙ reference_is trees program.linkable.no_refusal row.class callee.class linked.class
