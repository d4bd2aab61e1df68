-- Files that link are ordered: no class is above itself, and directly above an interface is Object.
use Rattle.std.proofs.Common.{◌≡◌, ℕ, zero, suc, ◌≤◌, List, [], ◌∷◌, ◌++◌, length, map, Bool, true, false, not, ◌&&◌, ◌||◌, cond, Option, Some, None, refl, sym, ap, ◌∙◌, subst, ⊎_elim, arith}
use Rattle.std.specs.Prelude.{find}
use Rattle.std.specs.Option.{option_and_then, option_map_or, option_to_list}
use Rattle.std.specs.List.{list_any, list_all, AllByRecursion, IsDistinct}
use Rattle.std.proofs.lemmas.Bool.{false≢true, and_parts, and_from, or_cases, or_left, or_right, or_parts, false_from_ne_true, not-true}
use Rattle.std.proofs.lemmas.List.{length-map}
use Rattle.std.proofs.lemmas.Map.Made.{length-le_from_is_member}
use Rattle.std.proofs.lemmas.Option.{same_Some}
use Rattle.model.specs.Names.{Name, name_eq, java_lang_object}
use Rattle.model.specs.Tree.{FileTree}
use Rattle.model.specs.AccessFlags.{is_interface_class}
use Rattle.model.specs.BuiltIn.{built_in_classes}
use Rattle.model.specs.Classes.{Program, name_of, super_name_of, classes_of, is_named, class_of, superclass_of, superinterfaces_of, lineage_of, is_interface}
use Rattle.model.specs.Hierarchy.{direct_supertypes, is_above, in_cycle, extends_interface, extends_final, implements_class, interface_below_other, has_bad_hierarchy}
use Rattle.model.specs.Linkable.{NoMain, TooManyFields, Unresolved, BadHierarchy, stands, some_stands}
use Rattle.run_laws.specs.laws.Steps.{ends, Rooted}
use Rattle.run_laws.proofs.laws.Classes.{names_same}
use Rattle.run_laws.proofs.laws.Lists.{all_weaken, all_append}
use Rattle.run_laws.specs.typing_search.Orders.{IsOrdered}
use Rattle.run_laws.proofs.laws.RootedOf.{name_sides, name_laws}

-- ---- tests of lists

module _ {A : Type 0} where
  any_weaken : (p q : A → Bool) (xs : List A) → ((x : A) → p x ≡ true → q x ≡ true) → list_any p xs ≡ true → list_any q xs ≡ true
  any_weaken p q [] w h = h
  any_weaken p q (x ∷ xs) w h = ⊎_elim (λ e. or_left (q x) _ (w x e)) (λ e. or_right (q x) _ (any_weaken p q xs w e)) (or_cases (p x) _ h)

  none_all : (p q : A → Bool) (xs : List A) → ((x : A) → p x ≡ false → q x ≡ true) → list_any p xs ≡ false → list_all q xs ≡ true
  none_all p q [] w h = refl
  none_all p q (x ∷ xs) w h = let e = or_parts (p x) _ h in and_from _ _ (w x e.0) (none_all p q xs w e.1)

  -- what is found passes the test, and whatever all pass
  found : (p q : A → Bool) (xs : List A) (x : A) → list_all q xs ≡ true → find p xs ≡ Some x → (p x ≡ true) × (q x ≡ true)
  found p q [] x h e = absurd cc
  found p q (y ∷ ys) x h e = by (p y) refl e (λ g. found p q ys x (and_parts _ _ h).1 g)
    where
      by : (c : Bool) → p y ≡ c → cond c (Some y) (find p ys) ≡ Some x → (find p ys ≡ Some x → (p x ≡ true) × (q x ≡ true))
          → (p x ≡ true) × (q x ≡ true)
      by true t e rest = let same = same_Some y x e in (ap p (sym same) ∙ t, ap q (sym same) ∙ (and_parts _ _ h).0)
      by false t e rest = rest e

  all_pass : (xs : List A) → list_all (λ x. true) xs ≡ true
  all_pass [] = refl
  all_pass (x ∷ xs) = all_pass xs

-- ---- names

module _ (files : Program) where
  -- the class of a name that has a superclass
  its_class : (c s : Name) → superclass_of files c ≡ Some s → (file : FileTree) × (class_of files c ≡ Some file)
  its_class c s e = by (class_of files c) refl e
    where
      by : (o : Option FileTree) → class_of files c ≡ o → option_and_then super_name_of o ≡ Some s
          → (file : FileTree) × (class_of files c ≡ Some file)
      by None q e = absurd cc
      by (Some file) q e = (file, q)

  abbrev names : List Name
  names = map name_of (classes_of files)

  find_member : (c : Name) (classes : List FileTree) (file : FileTree) → find (is_named c) classes ≡ Some file
      → list_any (name_eq c) (map name_of classes) ≡ true
  find_member c [] file e = absurd cc
  find_member c (k ∷ ks) file e = by (is_named c k) refl e (λ g. find_member c ks file g)
    where
      by : (b : Bool) → is_named c k ≡ b → cond b (Some k) (find (is_named c) ks) ≡ Some file
          → (find (is_named c) ks ≡ Some file → list_any (name_eq c) (map name_of ks) ≡ true)
          → list_any (name_eq c) (map name_of (k ∷ ks)) ≡ true
      by true t e rest = or_left (name_eq c (name_of k)) _ (name_sides c (name_of k) ∙ t)
      by false t e rest = or_right (name_eq c (name_of k)) _ (rest e)

  -- ---- superclasses that do not end

  abbrev Goes : ℕ → Name → Type 0
  Goes n c = ends files n c ≡ false

  next_of : (n : ℕ) (c : Name) → Goes (suc n) c → (s : Name) × (superclass_of files c ≡ Some s) × Goes n s
  next_of n c e = by (superclass_of files c) refl e
    where
      by : (o : Option Name) → superclass_of files c ≡ o → option_map_or (λ s. ends files n s) o true ≡ false
          → (s : Name) × (superclass_of files c ≡ Some s) × Goes n s
      by None q e = absurd (false≢true (sym e))
      by (Some s) q e = (s, q, e)

  lineage_is : (n : ℕ) (c s : Name) → superclass_of files c ≡ Some s → lineage_of files (suc n) c ≡ c ∷ lineage_of files n s
  lineage_is n c s q = ap (λ o. c ∷ option_map_or (λ x. lineage_of files n x) o []) q

  as_long : (n : ℕ) (c : Name) → Goes n c → length (lineage_of files n c) ≡ n
  as_long zero c e = refl
  as_long (suc n) c e = let s = next_of n c e in ap length (lineage_is n c s.0 s.1) ∙ ap suc (as_long n s.0 s.2)

  are_named : (n : ℕ) (c : Name) → Goes n c → (q : Name) → list_any (name_eq q) (lineage_of files n c) ≡ true
      → list_any (name_eq q) names ≡ true
  are_named zero c e q m = absurd (false≢true m)
  are_named (suc n) c e q m =
      let s = next_of n c e in
      let k = its_class c s.0 s.1 in
      ⊎_elim (λ same. subst (λ x. list_any (name_eq x) names
      ≡ true) (sym (names_same q c same)) (find_member c (classes_of files) k.0 k.1)) (λ more. are_named n s.0 s.2 q more)
      (or_cases (name_eq q c) _ (subst (λ l. list_any (name_eq q) l ≡ true) (lineage_is n c s.0 s.1) m))

  -- ---- who is above

  above_within : (a b : ℕ) (c d : Name) → a ≤ b → is_above files a c d ≡ true → is_above files b c d ≡ true
  above_within zero b c d l e = absurd (false≢true e)
  above_within (suc a) zero c d l e = absurd (omega (arith, l))
  above_within (suc a) (suc b) c d l e =
      any_weaken _ _ (direct_supertypes files c) (λ s q. ⊎_elim (λ w. or_left (name_eq s d) _ w) (λ w. or_right (name_eq s d) _ (above_within a b s d (omega (arith, l)) w)) (or_cases (name_eq s d) _ q)) e

  never_above : (a b : ℕ) (c d : Name) → a ≤ b → is_above files b c d ≡ false → is_above files a c d ≡ false
  never_above a b c d l e = false_from_ne_true (is_above files a c d) (λ q. false≢true (sym e ∙ above_within a b c d l q))

  -- where d is not above c, neither the superclass of c is d nor is d above that
  first_off : (n : ℕ) (c s d : Name) → superclass_of files c ≡ Some s → is_above files (suc n) c d ≡ false
      → (name_eq s d || is_above files n s d) ≡ false
  first_off n c s d q e =
      (or_parts (name_eq s d || is_above files n s d) _ (subst (λ o. list_any (λ x. name_eq x d || is_above files n x d) (option_to_list o ++ superinterfaces_of files c) ≡ false) q e)).0

  abbrev Off : ℕ → Name → Name → Type 0
  Off zero s d = Unit {0}
  Off (suc n) s d = (name_eq s d || is_above files n s d) ≡ false

  off_by : (n : ℕ) (c s d : Name) → superclass_of files c ≡ Some s → is_above files n c d ≡ false → Off n s d
  off_by zero c s d q e = tt
  off_by (suc n) c s d q e = first_off n c s d q e

  apart : (n : ℕ) (s d : Name) → Off n s d → AllByRecursion (λ y. name_eq d y ≡ false) (lineage_of files n s)
  apart zero s d h = tt
  apart (suc n) s d h =
      let e = or_parts (name_eq s d) _ h in
      (name_sides d s ∙ e.0, by (λ u q. apart n u d (off_by n s u d q e.1)) (superclass_of files s) refl)
    where
      by : ((u : Name) → superclass_of files s ≡ Some u → AllByRecursion (λ y. name_eq d y ≡ false) (lineage_of files n u))
          → (o : Option Name) → superclass_of files s ≡ o
          → AllByRecursion (λ y. name_eq d y ≡ false) (option_map_or (λ x. lineage_of files n x) o [])
      by rec None q = tt
      by rec (Some u) q = rec u q

  -- ---- from the conditions of linking

  abbrev is_acyclic : ℕ → FileTree → Bool
  is_acyclic n file = not (is_above files n (name_of file) (name_of file))

  built_in_acyclic : (n : ℕ) → list_all (is_acyclic (suc (suc (suc (suc (suc (suc (suc (suc n))))))))) built_in_classes ≡ true
  unfolding built_in_classes
  built_in_acyclic n = refl

  abbrev is_well_below : FileTree → Bool
  is_well_below file = not (interface_below_other files file)

  built_in_below : list_all is_well_below built_in_classes ≡ true
  unfolding built_in_classes
  built_in_below = refl

  below_part : (k : FileTree) → has_bad_hierarchy files k ≡ false → interface_below_other files k ≡ false
  below_part k e =
      let a = or_parts (in_cycle files k) _ e in
      let b = or_parts (extends_interface files k) _ a.1 in
      let c = or_parts (extends_final files k) _ b.1 in
      let d = or_parts (implements_class files k) _ c.1 in
      (or_parts (interface_below_other files k) _ d.1).0

  module _ (linked : list_any (has_bad_hierarchy files) files ≡ false) where
    abbrev count : ℕ
    count = length (classes_of files)

    acyclic : list_all (is_acyclic count) (classes_of files) ≡ true
    acyclic =
        all_append (is_acyclic count) built_in_classes files
        (all_weaken (is_acyclic (suc (suc (suc (suc (suc (suc (suc (suc count))))))))) (is_acyclic count) built_in_classes (λ k e. ap not (never_above count (suc (suc (suc (suc (suc (suc (suc (suc count)))))))) (name_of k) (name_of k) (omega arith) (not-true _ e))) (built_in_acyclic count))
        (none_all (has_bad_hierarchy files) (is_acyclic count) files (λ k e. ap not (or_parts (in_cycle files k) _ e).0) linked)

    no_cycle : (c s : Name) → superclass_of files c ≡ Some s → is_above files count c c ≡ false
    no_cycle c s e =
        let k = its_class c s e in
        let f = found (is_named c) (is_acyclic count) (classes_of files) k.0 acyclic k.1 in
        subst (λ x. is_above files count x x ≡ false) (names_same (name_of k.0) c f.0) (not-true _ f.1)

    distinct : (n : ℕ) (c : Name) → n ≤ suc count → Goes n c → IsDistinct name_eq (lineage_of files n c)
    unfolding IsDistinct
    distinct zero c l e = tt
    distinct (suc n) c l e =
        let s = next_of n c e in
        subst (IsDistinct name_eq) (sym (lineage_is n c s.0 s.1)) (apart n s.0 c (off_by n c s.0 c s.1 (never_above n count c c (omega (arith, l)) (no_cycle c s.0 s.1))), distinct n s.0 (omega (arith, l)) s.2)

    pub rooted : Rooted files
    rooted c = by (ends files (suc count) c) refl
      where
        by : (b : Bool) → ends files (suc count) c ≡ b → ends files (suc count) c ≡ true
        by true e = e
        by false e =
            let l = as_long (suc count) c e in
            let m = length-le_from_is_member name_laws (lineage_of files (suc count) c) names (distinct (suc count) c (omega arith) e) (are_named (suc count) c e) in
            let n : length names ≡ count = simp length-map in
            absurd (omega (arith, l, m, n))

    well_below : list_all is_well_below (classes_of files) ≡ true
    well_below =
        all_append is_well_below built_in_classes files built_in_below (none_all (has_bad_hierarchy files) is_well_below files (λ k e. ap not (below_part k e)) linked)

    pub interfaces : (c : Name) → is_interface files c ≡ true → superclass_of files c ≡ Some java_lang_object
    interfaces c i = by (class_of files c) refl i
      where
        spelled : (o : Option Name) → option_map_or (λ s. name_eq s java_lang_object) o false ≡ true → o ≡ Some java_lang_object
        spelled None e = absurd (false≢true e)
        spelled (Some s) e = ap (λ x. Some x) (names_same s java_lang_object e)

        not_not : (b : Bool) → not b ≡ false → b ≡ true
        not_not true e = refl
        not_not false e = absurd (false≢true (sym e))

        under : (a b : Bool) → a ≡ true → not (a && not b) ≡ true → b ≡ true
        under true b p e = not_not b (not-true (not b) e)
        under false b p e = absurd (false≢true p)

        by : (o : Option FileTree) → class_of files c ≡ o → option_map_or is_interface_class o false ≡ true
            → option_and_then super_name_of o ≡ Some java_lang_object
        by None q e = absurd (false≢true e)
        by (Some k) q e = spelled (super_name_of k) (under (is_interface_class k) _ e (found (is_named c) is_well_below (classes_of files) k well_below q).1)

-- where no condition of linking stands
pub ordered_from : (files : Program) → some_stands files ≡ false → IsOrdered files
ordered_from files e =
    let a = or_parts (stands files NoMain) _ e in
    let b = or_parts (stands files TooManyFields) _ a.1 in
    let c = or_parts (stands files Unresolved) _ b.1 in
    let d = or_parts (stands files BadHierarchy) _ c.1 in
    record { rooted = rooted files d.0; interfaces = interfaces files d.0 }
