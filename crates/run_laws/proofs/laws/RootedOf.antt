-- No class is above itself, where no file is in a cycle: so superclasses end.
use Rattle.std.proofs.Common.{◌≡◌, ℕ, zero, suc, ◌≤◌, List, [], ◌∷◌, ◌++◌, map, find, cond, length, Option, Some, None, Bool, true, false, ◌||◌, refl, sym, ap, ◌∙◌, subst, ⊎_elim, arith}
use Rattle.std.specs.Option.{option_map_or, option_to_list}
use Rattle.std.specs.List.{AllByRecursion, list_any, list_all, IsDistinct}
use Rattle.std.specs.Cmp.{IsEquivalence}
use Rattle.std.proofs.lemmas.Bool.{false≢true, true≢false, or_cases, or_left, or_right, cases_Bool, false_from_ne_true, true_from_ne_false}
use Rattle.std.proofs.lemmas.Map.Made.{length-le_from_is_member}
use Rattle.std.proofs.lemmas.List.{length-map}
use Rattle.model.specs.Names.{Name, name_eq}
use Rattle.model.specs.Tree.{FileTree}
use Rattle.model.specs.BuiltIn.{built_in_classes}
use Rattle.model.specs.Classes.{Program, name_of, super_name_of, classes_of, is_named, class_of, superclass_of, is_within, lineage_of, superinterfaces_of}
use Rattle.model.specs.Hierarchy.{is_above, in_cycle}
use Rattle.run_laws.specs.laws.Steps.{ends, Rooted}
use Rattle.run_laws.proofs.laws.Lists.{every_append, every_weaken}
use Rattle.run_laws.proofs.laws.Classes.{names_same, name_self, subclass_self}
use Rattle.run_laws.proofs.laws.Found.{found_passes, found_has, none_any, every_all, some_from}

-- ---- names

pub name_turned : (a b : Name) → name_eq a b ≡ true → name_eq b a ≡ true
name_turned a b h = subst (λ c. name_eq c a ≡ true) (names_same a b h) (name_self a)

pub name_sides : (a b : Name) → name_eq a b ≡ name_eq b a
name_sides a b = ⊎_elim
    (λ t. t ∙ sym (name_turned a b t))
    (λ f. f ∙ sym (false_from_ne_true (name_eq b a) (λ t. false≢true (sym f ∙ name_turned b a t))))
    (cases_Bool (name_eq a b))

pub name_laws : IsEquivalence name_eq
name_laws = record {
  refl = name_self;
  symm = name_sides;
  congr = λ x y z h. ap (λ n. name_eq n z) (names_same x y h);
}

module _ (files : Program) where
  -- ---- superclasses that lead back

  abbrev pub NoWayBack : Name → Type 0
  NoWayBack d = (m : ℕ) (s : Name) → suc m ≤ length (classes_of files) → superclass_of files d ≡ Some s → is_within files m s d ≡ true → ⊥

  -- a superclass by its steps is above the class
  above_first : (n : ℕ) (d s e : Name) → superclass_of files d ≡ Some s → (name_eq s e || is_above files n s e) ≡ true
      → is_above files (suc n) d e ≡ true
  above_first n d s e q h =
      subst (λ o. list_any (λ x. name_eq x e || is_above files n x e) (option_to_list o ++ superinterfaces_of files d) ≡ true) (sym q)
      (or_left (name_eq s e || is_above files n s e) _ h)

  -- on to the superclass, where there is one
  pub on_super_of : (P : Name → Bool) (s : Name) (Q : Type 0) → ((x : Name) → superclass_of files s ≡ Some x → P x ≡ true → Q)
      → (o : Option Name) → superclass_of files s ≡ o → option_map_or P o false ≡ true → Q
  on_super_of P s Q f None q w = absurd (false≢true w)
  on_super_of P s Q f (Some x) q w = f x q w

  above_way : (m n : ℕ) (d s e : Name) → suc m ≤ n → superclass_of files d ≡ Some s → is_within files m s e ≡ true
      → is_above files n d e ≡ true
  above_way m zero d s e l q w = absurd (omega (arith, l))
  above_way zero (suc n) d s e l q w = above_first n d s e q (or_left (name_eq s e) _ w)
  above_way (suc m) (suc n) d s e l q w =
      above_first n d s e q
      (⊎_elim (λ h. or_left (name_eq s e) _ h)
      (λ h. or_right (name_eq s e) _ (on_super_of (λ x. is_within files m x e) s (is_above files n s e ≡ true) (λ x p v. above_way m n s x e (omega (arith, l)) p v) (superclass_of files s) refl h))
      (or_cases (name_eq s e) _ w))

  of_acyclic : (d : Name) → is_above files (length (classes_of files)) d d ≡ false → NoWayBack d
  of_acyclic d h m s l q w = false≢true (sym h ∙ above_way m (length (classes_of files)) d s d l q w)

  -- superclasses that end do not lead back
  pub ends_above : (k : ℕ) (d s : Name) → superclass_of files d ≡ Some s → ends files (suc k) d ≡ true → ends files k s ≡ true
  ends_above k d s q e = subst (λ o. option_map_or (λ x. ends files k x) o true ≡ true) q e

  kept_true : (P Q : Name → Bool) (o : Option Name) → ((x : Name) → P x ≡ true → Q x ≡ true) → option_map_or P o true ≡ true
      → option_map_or Q o true ≡ true
  kept_true P Q None f h = h
  kept_true P Q (Some x) f h = f x h

  ends_later : (k : ℕ) (d : Name) → ends files k d ≡ true → ends files (suc k) d ≡ true
  ends_later zero d e = absurd (false≢true e)
  ends_later (suc k) d e = kept_true (λ x. ends files k x) (λ x. ends files (suc k) x) (superclass_of files d) (λ x h. ends_later k x h) e

  pub within_ends : (m k : ℕ) (s d : Name) → is_within files m s d ≡ true → ends files k s ≡ true → ends files k d ≡ true
  within_ends zero k s d w e = subst (λ n. ends files k n ≡ true) (names_same s d w) e
  within_ends (suc m) zero s d w e = absurd (false≢true e)
  within_ends (suc m) (suc k) s d w e =
      ⊎_elim (λ h. subst (λ n. ends files (suc k) n ≡ true) (names_same s d h) e)
      (λ h. on_super_of (λ x. is_within files m x d) s (ends files (suc k) d ≡ true) (λ x p v. ends_later k d (within_ends m k x d v (ends_above k s x p e))) (superclass_of files s) refl h)
      (or_cases (name_eq s d) _ w)

  of_ends : (k : ℕ) (d : Name) → ends files k d ≡ true → NoWayBack d
  of_ends zero d e m s l q w = false≢true e
  of_ends (suc k) d e m s l q w = of_ends k d (within_ends m k s d w (ends_above k d s q e)) m s l q w

  -- ---- what has no way back is not met twice

  super_all : (P : Name → Type 0) (f : Name → List Name) (o : Option Name) → ((x : Name) → o ≡ Some x → AllByRecursion P (f x))
      → AllByRecursion P (option_map_or f o [])
  super_all P f None h = tt
  super_all P f (Some x) h = h x refl

  pub lineage_within : (n m : ℕ) (s : Name) → n ≤ suc m → AllByRecursion (λ y. is_within files m s y ≡ true) (lineage_of files n s)
  lineage_within zero m s l = tt
  lineage_within (suc zero) m s l = (subclass_self files m s, super_all _ (λ x. lineage_of files zero x) (superclass_of files s) (λ x q. tt))
  lineage_within (suc (suc n)) zero s l = absurd (omega (arith, l))
  lineage_within (suc (suc n)) (suc m) s l = (
    subclass_self files (suc m) s,
    super_all _ (λ x. lineage_of files (suc n) x) (superclass_of files s) (λ x q.
        every_weaken (λ y. is_within files m x y ≡ true) (λ y. is_within files (suc m) s y ≡ true) (lineage_of files (suc n) x)
        (λ y w. or_right (name_eq s y) _ (subst (λ o. option_map_or (λ z. is_within files m z y) o false ≡ true) (sym q) w))
        (lineage_within (suc n) m x (omega (arith, l)))),
  )

  module _ (no_way_back : (d : Name) → NoWayBack d) where
    apart : (n : ℕ) (c : Name) → n ≤ length (classes_of files) → (s : Name) → superclass_of files c ≡ Some s
        → AllByRecursion (λ y. name_eq c y ≡ false) (lineage_of files n s)
    apart zero c l s q = tt
    apart (suc m) c l s q =
        every_weaken (λ y. is_within files m s y ≡ true) (λ y. name_eq c y ≡ false) (lineage_of files (suc m) s)
        (λ y w. false_from_ne_true (name_eq c y) (λ h. no_way_back c m s l q (subst (λ z. is_within files m s z ≡ true) (sym (names_same c y h)) w)))
        (lineage_within (suc m) m s (omega arith))

    distinct_super : (o : Option Name) (n : ℕ) → ((x : Name) → IsDistinct name_eq (lineage_of files n x))
        → IsDistinct name_eq (option_map_or (λ x. lineage_of files n x) o [])
    unfolding IsDistinct
    distinct_super None n h = tt
    distinct_super (Some x) n h = h x

    lineage_distinct : (n : ℕ) (c : Name) → n ≤ suc (length (classes_of files)) → IsDistinct name_eq (lineage_of files n c)
    unfolding IsDistinct
    lineage_distinct zero c l = tt
    lineage_distinct (suc n) c l = (
      super_all _ (λ x. lineage_of files n x) (superclass_of files c) (λ x q. apart n c (omega (arith, l)) x q),
      distinct_super (superclass_of files c) n (λ x. lineage_distinct n x (omega (arith, l))),
    )

  -- ---- superclasses that do not end are as many as one likes, and each has a class

  length_super : (o : Option Name) (n : ℕ) → ((x : Name) → ends files n x ≡ false → length (lineage_of files n x) ≡ n)
      → option_map_or (λ x. ends files n x) o true ≡ false → length (option_map_or (λ x. lineage_of files n x) o []) ≡ n
  length_super None n h e = absurd (true≢false e)
  length_super (Some x) n h e = h x e

  lineage_long : (n : ℕ) (c : Name) → ends files n c ≡ false → length (lineage_of files n c) ≡ n
  lineage_long zero c e = refl
  lineage_long (suc n) c e = ap suc (length_super (superclass_of files c) n (λ x h. lineage_long n x h) e)

  abbrev names : List Name
  names = map name_of (classes_of files)

  named_among : (fs : List FileTree) (c : Name) (file : FileTree) → find (is_named c) fs ≡ Some file
      → list_any (name_eq c) (map name_of fs) ≡ true
  named_among [] c file e = absurd cc
  named_among (f ∷ fs) c file e =
      ⊎_elim (λ t. or_left (name_eq c (name_of f)) _ (name_turned (name_of f) c t))
      (λ t. or_right (name_eq c (name_of f)) _ (named_among fs c file (subst (λ b. cond b (Some f) (find (is_named c) fs) ≡ Some file) t e)))
      (cases_Bool (is_named c f))

  has_name : (c s : Name) → superclass_of files c ≡ Some s → list_any (name_eq c) names ≡ true
  has_name c s q = let f = some_from super_name_of (class_of files c) s q in named_among (classes_of files) c f.0 f.1

  names_super : (c : Name) (o : Option Name) (n : ℕ) → superclass_of files c ≡ o
      → ((x : Name) → ends files n x ≡ false → AllByRecursion (λ y. list_any (name_eq y) names ≡ true) (lineage_of files n x))
      → option_map_or (λ x. ends files n x) o true ≡ false
      → AllByRecursion (λ y. list_any (name_eq y) names ≡ true) (c ∷ option_map_or (λ x. lineage_of files n x) o [])
  names_super c None n q h e = absurd (true≢false e)
  names_super c (Some x) n q h e = (has_name c x q, h x e)

  lineage_named : (n : ℕ) (c : Name) → ends files n c ≡ false
      → AllByRecursion (λ y. list_any (name_eq y) names ≡ true) (lineage_of files n c)
  lineage_named zero c e = tt
  lineage_named (suc n) c e = names_super c (superclass_of files c) n refl (λ x h. lineage_named n x h) e

  among : (P : Name → Type 0) (xs : List Name) (q : Name) → AllByRecursion P xs → list_any (name_eq q) xs ≡ true → P q
  among P [] q a h = absurd (false≢true h)
  among P (x ∷ xs) q a h =
      ⊎_elim (λ t. subst P (sym (names_same q x t)) a.0) (λ t. among P xs q a.1 t) (or_cases (name_eq q x) _ h)

  -- where no class leads back to itself, superclasses end
  pub rooted_from : ((d : Name) → NoWayBack d) → Rooted files
  rooted_from h c =
      let n = length (classes_of files) in
      true_from_ne_false (ends files (suc n) c) (λ e.
      let short : length (lineage_of files (suc n) c) ≤ length names =
      length-le_from_is_member name_laws (lineage_of files (suc n) c) names (lineage_distinct h (suc n) c (omega arith))
      (λ q m. among (λ y. list_any (name_eq y) names ≡ true) (lineage_of files (suc n) c) q (lineage_named (suc n) c e) m) in
      let long : length (lineage_of files (suc n) c) ≡ suc n = lineage_long (suc n) c e in
      let all : length names ≡ n = length-map (classes_of files) name_of in
      omega (arith, short, long, all))

  -- ---- the classes of a program

  built_in_end : list_all (λ f. ends files 6 (name_of f)) built_in_classes ≡ true
  unfolding built_in_classes
  built_in_end = refl

  -- no class leads back to itself where no file is in a cycle
  pub rooted_of : list_any (in_cycle files) files ≡ false → Rooted files
  rooted_of h = rooted_from (λ d m s l q w.
      let f = some_from super_name_of (class_of files d) s q in
      let named = names_same (name_of f.0) d (found_passes (is_named d) (classes_of files) f.0 f.1) in
      let none : NoWayBack (name_of f.0) =
      found_has (λ file. NoWayBack (name_of file)) (is_named d) (classes_of files) f.0
      (every_append (λ file. NoWayBack (name_of file)) built_in_classes files
      (every_weaken _ _ built_in_classes (λ file e. of_ends 6 (name_of file) e) (every_all _ built_in_classes built_in_end))
      (every_weaken _ _ files (λ file e. of_acyclic (name_of file) e) (none_any _ files h)))
      f.1 in
      (subst NoWayBack named none) m s l q w)
