-- The number of the initial class, which stands first behind the built-in ones, and its Class object.
use Rattle.std.proofs.Common.{◌≡◌, ◌<◌, ◌+◌, ◌-◌, ℕ, zero, suc, List, [], ◌∷◌, ◌++◌, length, Bool, true, false, Option, Some, None, cond, refl, sym, ap, subst, ◌∙◌, arith}
use Rattle.std.specs.Prelude.{find, is_some, nat_lt, slice_get}
use Rattle.std.specs.List.{list_any, position_or_len}
use Rattle.std.proofs.lemmas.Bool.{true≢false, or_right, ltb-true, ltb-false}
use Rattle.std.proofs.lemmas.Option.{same_Some}
use Rattle.model.specs.Names.{Name, main_of}
use Rattle.model.specs.Tree.{FileTree}
use Rattle.model.specs.BuiltIn.{built_in_classes}
use Rattle.model.specs.Classes.{Program, name_of, is_named, is_built_in, classes_of}
use Rattle.model.specs.Linkable.{some_stands, has_built_in_name}
use Rattle.model.specs.Opening.{class_reference}
use Rattle.model.specs.State.{StateOf}
use Rattle.model.specs.Words.{AreWellTypedWords}
use Rattle.model.specs.Step.{initial_class}
use Rattle.run_laws.proofs.laws.Classes.{name_self}
use Rattle.run_laws.proofs.laws.Unrefused.{unrefused_of}
use Rattle.linked_code.specs.declared.method.LinkedMethod.{LinkedMethod}
use Rattle.linked_code.specs.declared.program.LinkedProgram.{LinkedProgram}
use Rattle.linked_code.specs.Numbers.{IsClassAt}
use Rattle.run_laws.proofs.typed_threads.Instances.{within}
use Rattle.run_laws.proofs.typed_threads.Objects.{opening_objects}
use Rattle.machine_state.specs.Shown.{IsProgram}
use Rattle.machine_state.specs.method_selection.Rows.{AreMethodsRead}
use Rattle.machine_state.proofs.class_initialisation.Named.{any_at, one_place, files_differ, none_built_in, is_so, file_at}

-- ---- lists

not_here : {A : Type 0} (p : A → Bool) (x : A) (xs : List A) → find p (x ∷ xs) ≡ None → (p x ≡ false) × (find p xs ≡ None)
not_here p x xs h = by (p x) refl h
  where
    by : (b : Bool) → p x ≡ b → cond b (Some x) (find p xs) ≡ None → (p x ≡ false) × (find p xs ≡ None)
    by true e q = absurd cc
    by false e q = (e, q)

-- what is not in the first list has its place behind it
behind : {A : Type 0} (p : A → Bool) (xs ys : List A) → find p xs ≡ None → position_or_len p (xs ++ ys) ≡ length xs + position_or_len p ys
behind p [] ys h = let e : position_or_len p ys ≡ 0 + position_or_len p ys = omega arith in e
behind p (x ∷ xs) ys h = let both = not_here p x xs h in rw both.0 (omega (arith, behind p xs ys both.1))

passes_at : {A : Type 0} (p : A → Bool) (xs : List A) (k : ℕ) (x : A) → slice_get xs k ≡ Some x → p x ≡ true → list_any p xs ≡ true
passes_at p [] k x e h = absurd cc
passes_at p (y ∷ ys) zero x e h = let same : y ≡ x = cc in rw (same, h) refl
passes_at p (y ∷ ys) (suc k) x e h = or_right (p y) (list_any p ys) (passes_at p ys k x e h)

none_some : {A : Type 0} (o : Option A) → is_some o ≡ false → o ≡ None
none_some None h = refl
none_some (Some x) h = absurd (true≢false h)

built_in_count : length built_in_classes ≡ 37
unfolding built_in_classes
built_in_count = refl

-- ---- the class of the first file

module _ (file : FileTree) (files : Program) (linkable : some_stands (file ∷ files) ≡ false) where
  abbrev trees : Program
  trees = file ∷ files

  new_name : is_built_in (name_of file) ≡ false
  new_name = any_at has_built_in_name trees 0 file refl (none_built_in trees linkable)

  place : position_or_len (is_named (name_of file)) (classes_of trees) ≡ 37
  place =
      let here : position_or_len (is_named (name_of file)) trees ≡ 0 = rw (name_self (name_of file)) refl in
      behind (is_named (name_of file)) built_in_classes trees (none_some (find (is_named (name_of file)) built_in_classes) new_name)
      ∙ ap (λ n. n + position_or_len (is_named (name_of file)) trees) built_in_count
      ∙ ap (λ n. 37 + n) here

  number : (n : ℕ) → IsClassAt trees n (name_of file) → n ≡ 37
  number n at = by (nat_lt n 37) refl
    where
      by : (b : Bool) → nat_lt n 37 ≡ b → n ≡ 37
      by true e =
          absurd (true≢false (sym (is_so trees linkable n (ltb-true n 37 e) at.0 at.1) ∙ ap is_built_in at.2 ∙ new_name))
      by false e =
          let past = ltb-false n 37 e in
          let split : n ≡ 37 + (n - 37) = omega arith in
          let there = file_at trees linkable (n - 37) at.0 (subst (λ k. slice_get (classes_of trees) k ≡ Some at.0) split at.1) in
          split ∙ ap (λ k. 37 + k) (one_place trees (files_differ trees linkable) (n - 37) 0 at.0 file there refl at.2)

-- the row of main has its number
pub class_at : AreMethodsRead → (trees : Program) (p : LinkedProgram) → IsProgram trees p → (row : LinkedMethod)
    → slice_get p.methods.items p.main ≡ Some row → IsClassAt trees row.class (initial_class trees)
class_at read trees p program row is =
    let has = read trees p program.linked p.main (main_of (initial_class trees)) program.linked.main in
    subst (λ (r : LinkedMethod). IsClassAt trees r.class (initial_class trees)) (same_Some _ _ (sym has.is ∙ is)) has.linked.class

-- its Class object, by its number
pub class_object : (trees : Program) (p : LinkedProgram) → IsProgram trees p → (n : ℕ) → IsClassAt trees n (initial_class trees)
    → 3 + n ≡ class_reference trees (initial_class trees)
class_object [] p program n at = absurd (true≢false (unrefused_of program.files [] program.linkable.spelled program.linkable.no_refusal).some_file)
class_object (file ∷ files) p program n at = ap (λ k. 3 + k) (number file files program.linkable.no_refusal n at ∙ sym (place file files program.linkable.no_refusal))

-- the Class object of a class is there
pub class_object_there : (trees : Program) (state : StateOf ℕ) → AreWellTypedWords trees state → (n : ℕ) (class : Name)
    → IsClassAt trees n class
    → class_reference trees class < length state.world.heap
class_object_there trees state typed n class at =
    let any = passes_at (is_named class) (classes_of trees) n at.0 at.1 (subst (λ (name : Name). is_named name at.0 ≡ true) at.2 (name_self (name_of at.0))) in
    within state.world.heap (class_reference trees class) _ ((opening_objects trees state typed).classes class any)
