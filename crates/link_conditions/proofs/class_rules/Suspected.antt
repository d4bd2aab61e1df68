-- Classes that may declare a method which another one redeclares as it must not: what a table tells of those that do.
use Rattle.std.proofs.Common.{◌≡◌, ℕ, ◌+◌, ◌<◌, ◌≤◌, arith, length, ltb, Bool, true, false, not, ◌||◌, ◌&&◌, cond, List, [], ◌∷◌, refl, sym, ap, ◌∙◌, subst, Option, Some, None}
use Rattle.std.specs.Prelude.{◌==◌, find, position, slice_get}
use Rattle.std.specs.Option.{option_and_then, option_map_or}
use Rattle.std.specs.List.{list_any}
use Rattle.std.proofs.lemmas.Bool.{and_parts, or_parts, eqb-true}
use Rattle.std.proofs.lemmas.Option.{slice_get_past}
use borrow.Author.Tests.{ltb-true, ltb-false}
use Rattle.model.specs.Names.{Name, name_eq, spells}
use Rattle.model.specs.Tree.{Entry, Utf8, Integer, Float, Long, Double, Class, String, Field, Method, InterfaceMethod, NameAndType, Unusable, FileTree, MethodTree}
use Rattle.model.specs.Spelling.{entry_at, text_of}
use Rattle.model.specs.Pool.{utf8_of}
use Rattle.model.specs.Conditions.{text_at}
use Rattle.model.specs.AccessFlags.{is_private, is_final, is_package_private, is_private_method, is_static_method}
use Rattle.model.specs.Classes.{Program, name_of, classes_of, class_of, is_named, is_method, declared_in, same_package}
use Rattle.model.specs.Lookup.{method_of}
use Rattle.model.specs.Hierarchy.{redeclares_in}
use Rattle.model.specs.Profile.{method_name, method_descriptor}
use Rattle.hierarchy.specs.Places.{class_at, place_of}
use Rattle.hierarchy.proofs.Finding.{find_by_position, find_passes}
use Rattle.hierarchy.proofs.SetLaws.{same_name}
use Rattle.constant_pool.proofs.Passing.{none_at}
use Rattle.link_conditions.specs.class_rules.Rules.{is_bad_redeclaration}
use Rattle.link_conditions.specs.declared.class_rules.method_table.MethodTable.{MethodTable}
use Rattle.link_conditions.specs.class_rules.Declared.{number_of, flags_at, flags_of, is_told_by, is_told, has_untold, TellsMethods, with_flags, may_be_bad}

-- ---- a table that is looked through, class by class

pub one_more : (test : ℕ → Bool) (n : ℕ) → ((k : ℕ) → k < n → test k ≡ false) → test n ≡ false → (k : ℕ) → k < n + 1 → test k ≡ false
one_more test n before here k lt = by (ltb k n) refl
  where
    by : (b : Bool) → ltb k n ≡ b → test k ≡ false
    by true e = before k (ltb-true k n e)
    by false e =
        let past : n ≤ k = ltb-false k n e in
        let same : n ≡ k = omega (arith, past, lt) in
        subst (λ j. test j ≡ false) same here

pub all_told : (files : Program) (t : MethodTable) (n : ℕ) → length (classes_of files) ≤ n
    → ((k : ℕ) → k < n → option_map_or (has_untold t k) (class_at files k) false ≡ false) → TellsMethods files t
all_told files t n all before k = by (ltb k n) refl
  where
    by : (b : Bool) → ltb k n ≡ b → option_map_or (has_untold t k) (class_at files k) false ≡ false
    by true e = before k (ltb-true k n e)
    by false e =
        let past : n ≤ k = ltb-false k n e in
        ap (λ (o : Option FileTree). option_map_or (has_untold t k) o false) (slice_get_past (classes_of files) k (omega (arith, all, past)))

-- ---- no class of a list

pub none_among : (test : Name → Bool) → ((class : Name) → test class ≡ false) → (classes : List Name) → list_any test classes ≡ false
none_among test none [] = refl
none_among test none (class ∷ classes) = rw (none class, none_among test none classes) refl

-- ---- texts

spelled : (e : Entry) (name : Name) → spells (utf8_of e) name ≡ true → text_of e ≡ name
spelled (Utf8 text) name h = same_name text name h
spelled (Integer bits) name h = absurd cc
spelled (Float bits) name h = absurd cc
spelled (Long bits) name h = absurd cc
spelled (Double bits) name h = absurd cc
spelled (Class index) name h = absurd cc
spelled (String index) name h = absurd cc
spelled (Field class index) name h = absurd cc
spelled (Method class index) name h = absurd cc
spelled (InterfaceMethod class index) name h = absurd cc
spelled (NameAndType index descriptor) name h = absurd cc
spelled Unusable name h = absurd cc

-- a method of a name and a descriptor has these texts
texts_are : (file : FileTree) (name descriptor : Name) (m : MethodTree) → is_method file.pool name descriptor m ≡ true
    → (method_name file m ≡ name) × (method_descriptor file m ≡ descriptor)
texts_are file name descriptor m h =
    let parts = and_parts (spells (utf8_of (entry_at file.pool m.name)) name) _ h in
    (spelled (entry_at file.pool m.name) name parts.0, spelled (entry_at file.pool m.descriptor) descriptor parts.1)

-- ---- what the table tells of a method that a class declares

pub last_fails : (a b : Bool) → b ≡ false → (a && b) ≡ false
last_fails true b h = h
last_fails false b h = refl

pub first_fails : (a b : Bool) → a ≡ true → (not a && b) ≡ false
first_fails true b h = refl
first_fails false b h = absurd cc

not_false : (b : Bool) → not b ≡ false → b ≡ true
not_false true h = refl
not_false false h = absurd cc

-- it has a number, and its access flags are told
pub record IsTold (files : Program) (t : MethodTable) (class name descriptor : Name) (m : MethodTree) : Type 0 where
  pub place : ℕ
  pub number : ℕ
  pub stands : place_of files class ≡ Some place
  pub numbered : number_of t name descriptor ≡ Some number
  pub told : is_told_by t place m number ≡ true

module _ (files : Program) (t : MethodTable) (all : TellsMethods files t) (class name descriptor : Name) (m : MethodTree) where
  by_number : (place : ℕ) (file : FileTree) → place_of files class ≡ Some place → is_told t place file m ≡ true
      → method_name file m ≡ name → method_descriptor file m ≡ descriptor → IsTold files t class name descriptor m
  by_number place file stands told is_name is_descriptor =
      by (number_of t name descriptor) refl
      (sym (ap (λ (o : Option ℕ). option_map_or (is_told_by t place m) o false) (ap (λ (n : Name). number_of t n (method_descriptor file m)) is_name ∙ ap (λ (d : Name). number_of t name d) is_descriptor)) ∙ told)
    where
      by : (o : Option ℕ) → number_of t name descriptor ≡ o → option_map_or (is_told_by t place m) o false ≡ true
          → IsTold files t class name descriptor m
      by None e h = absurd cc
      by (Some number) e h = record { place = place; number = number; stands = stands; numbered = e; told = h }

  in_file : (place : ℕ) (file : FileTree) → place_of files class ≡ Some place → class_at files place ≡ Some file
      → declared_in file name descriptor ≡ Some m → IsTold files t class name descriptor m
  in_file place file stands at declared =
      let test = is_method file.pool name descriptor in
      let texts = texts_are file name descriptor m (find_passes test file.methods m declared) in
      let none : has_untold t place file ≡ false = ap (λ (o : Option FileTree). option_map_or (has_untold t place) o false) (sym at) ∙ all place in
      by_number place file stands (member (position test file.methods) none (sym (find_by_position test file.methods) ∙ declared)) texts.0 texts.1
    where
      member : (o : Option ℕ) → list_any (λ (x : MethodTree). not (is_told t place file x)) file.methods ≡ false
          → option_and_then (slice_get file.methods) o ≡ Some m → is_told t place file m ≡ true
      member None none e = absurd cc
      member (Some k) none e =
          not_false (is_told t place file m)
          (sym (ap (λ (o : Option MethodTree). option_map_or (λ (x : MethodTree). not (is_told t place file x)) o false) e) ∙ none_at (λ (x : MethodTree). not (is_told t place file x)) file.methods k none)

  pub told_of : method_of files (record { class = class; name = name; descriptor = descriptor }) ≡ Some m → IsTold files t class name descriptor m
  told_of h =
      by (place_of files class) refl (sym (ap (λ (o : Option FileTree). option_and_then (λ file. declared_in file name descriptor) o) (find_by_position (is_named class) (classes_of files))) ∙ h)
    where
      there : (place : ℕ) → place_of files class ≡ Some place → (o : Option FileTree) → class_at files place ≡ o
          → option_and_then (λ file. declared_in file name descriptor) o ≡ Some m → IsTold files t class name descriptor m
      there place stands None at e = absurd cc
      there place stands (Some file) at e = in_file place file stands at e

      by : (o : Option ℕ) → place_of files class ≡ o
          → option_and_then (λ file. declared_in file name descriptor) (option_and_then (slice_get (classes_of files)) o) ≡ Some m
          → IsTold files t class name descriptor m
      by None stands e = absurd cc
      by (Some place) stands e = there place stands (class_at files place) refl e

-- ---- classes that don't declare it so

-- one that passes no test is none of those that pass none
passed_by_none : (test : ℕ → Bool) (xs : List ℕ) (x : ℕ) → list_any (λ f. f == x) xs ≡ true → list_any test xs ≡ false → test x ≡ false
passed_by_none test [] x h none = absurd cc
passed_by_none test (y ∷ ys) x h none =
    let both = or_parts (test y) _ none in
    by (y == x) refl both.0 (λ more. passed_by_none test ys x more both.1) h
  where
    by : (b : Bool) → (y == x) ≡ b → test y ≡ false → (list_any (λ f. f == x) ys ≡ true → test x ≡ false)
        → (b || list_any (λ f. f == x) ys) ≡ true → test x ≡ false
    by true e here rest h = subst (λ z. test z ≡ false) (eqb-true y x e) here
    by false e here rest h = rest h

module _ (files : Program) (file : FileTree) (again : MethodTree) where
  -- a method of a class, of its name and descriptor, is redeclared as it must not be
  abbrev is_broken : Name → MethodTree → Bool
  is_broken class m = not (is_private_method m) && is_bad_redeclaration class m (name_of file) again

  not_broken : (class : Name) (m : MethodTree) → may_be_bad again m.flags ≡ false → is_broken class m ≡ false
  not_broken class m h =
      by (is_private m.flags) (is_static_method m) (is_static_method again) (is_final m.flags) (is_private again.flags) (is_package_private m.flags) (same_package class (name_of file)) h
    where
      by : (private static again_static final again_private narrow same : Bool)
          → (not private && cond static (not again_static) (final || (again_static || (again_private || narrow)))) ≡ false
          → (not private
          && ((final && not static)
          || ((static && not again_static)
          || ((not static && again_static) || ((not static && (narrow && not same)) || (not static && again_private))))))
          ≡ false
      by true static again_static final again_private narrow same h = refl
      by false true true true again_private narrow same h = refl
      by false true true false again_private narrow same h = refl
      by false true false final again_private narrow same h = absurd cc
      by false false again_static true again_private narrow same h = absurd cc
      by false false true false again_private narrow same h = absurd cc
      by false false false false true narrow same h = absurd cc
      by false false false false false true same h = absurd cc
      by false false false false false false same h = refl

  module _ (t : MethodTable) (all : TellsMethods files t) where
    abbrev number : Option ℕ
    number = number_of t (method_name file again) (method_descriptor file again)

    abbrev redeclared : Name → Bool
    redeclared class = redeclares_in is_bad_redeclaration files file again class

    of_declared : (class : Name)
        → ((m : MethodTree) → IsTold files t class (method_name file again) (method_descriptor file again) m → is_broken class m ≡ false)
        → redeclared class ≡ false
    of_declared class each =
        by (method_of files (record { class = class; name = method_name file again; descriptor = method_descriptor file again })) refl
      where
        by : (o : Option MethodTree)
            → method_of files (record { class = class; name = method_name file again; descriptor = method_descriptor file again }) ≡ o
            → option_map_or (is_broken class) o false ≡ false
        by None e = refl
        by (Some m) e = each m (told_of files t all class (method_name file again) (method_descriptor file again) m e)

    -- no class has a method of this name and descriptor
    pub none_numbered : number ≡ None → (class : Name) → redeclared class ≡ false
    none_numbered none class = of_declared class (λ m told. absurd (by m told))
      where
        by : (m : MethodTree) → IsTold files t class (method_name file again) (method_descriptor file again) m → ⊥
        by m told = let both : None ≡ Some told.number = sym none ∙ told.numbered in absurd cc

    -- none has one with such access flags
    pub none_flagged : (n : ℕ) → number ≡ Some n → list_any (may_be_bad again) (flags_of t n) ≡ false → (class : Name) → redeclared class ≡ false
    none_flagged n is none class = of_declared class by
      where
        by : (m : MethodTree) → IsTold files t class (method_name file again) (method_descriptor file again) m → is_broken class m ≡ false
        by m told =
            let same : told.number ≡ n = cc (told.numbered, is) in
            let flags = subst (λ k. list_any (λ f. f == m.flags) (flags_of t k) ≡ true) same (and_parts (list_any (λ f. f == m.flags) (flags_of t told.number)) _ told.told).0 in
            not_broken class m (passed_by_none (may_be_bad again) (flags_of t n) m.flags flags none)

    -- a class that isn't there
    pub no_class : (class : Name) → place_of files class ≡ None → redeclared class ≡ false
    no_class class none = of_declared class (λ m told. absurd (by m told))
      where
        by : (m : MethodTree) → IsTold files t class (method_name file again) (method_descriptor file again) m → ⊥
        by m told = let both : None ≡ Some told.place = sym none ∙ told.stands in absurd cc

    module _ (class : Name) (n p : ℕ) (is : number ≡ Some n) (stands : place_of files class ≡ Some p) where
      flags_told : (m : MethodTree) → IsTold files t class (method_name file again) (method_descriptor file again) m
          → option_map_or (λ f. f == m.flags) (flags_at t p n) false ≡ true
      flags_told m told =
          let same : told.number ≡ n = cc (told.numbered, is) in
          let here : told.place ≡ p = cc (told.stands, stands) in
          subst (λ k. option_map_or (λ f. f == m.flags) (flags_at t p k) false ≡ true) same
          (subst (λ k. option_map_or (λ f. f == m.flags) (flags_at t k told.number) false ≡ true) here (and_parts (list_any (λ f. f == m.flags) (flags_of t told.number)) _ told.told).1)

      -- a class that has no such method
      pub not_declared : flags_at t p n ≡ None → redeclared class ≡ false
      not_declared none = of_declared class by
        where
          by : (m : MethodTree) → IsTold files t class (method_name file again) (method_descriptor file again) m → is_broken class m ≡ false
          by m told =
              let nothing : false ≡ true = sym (ap (λ (o : Option ℕ). option_map_or (λ f. f == m.flags) o false) none) ∙ flags_told m told in
              absurd cc

      -- one that has it with other access flags
      pub not_so_declared : (flags : ℕ) → flags_at t p n ≡ Some flags → is_broken class (with_flags flags) ≡ false → redeclared class ≡ false
      not_so_declared flags at sound = of_declared class by
        where
          by : (m : MethodTree) → IsTold files t class (method_name file again) (method_descriptor file again) m → is_broken class m ≡ false
          by m told =
              let same : (flags == m.flags) ≡ true = sym (ap (λ (o : Option ℕ). option_map_or (λ f. f == m.flags) o false) at) ∙ flags_told m told in
              subst (λ f. is_broken class (with_flags f) ≡ false) (eqb-true flags m.flags same) sound
