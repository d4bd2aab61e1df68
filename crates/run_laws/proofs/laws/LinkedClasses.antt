-- What linking gives of classes: what stands above them, and which methods a reference finds.
use Rattle.std.proofs.Common.{◌≡◌, ℕ, zero, suc, List, [], ◌∷◌, length, get_or, flat_map, Bool, true, false, not, ◌&&◌, ◌||◌, is_some, Option, Some, None, refl, sym, ap, ◌∙◌, subst, ⊎_elim}
use Rattle.std.specs.Option.{option_map_or, option_and_then, is_none}
use Rattle.std.specs.List.{AllByRecursion, list_any, list_all}
use Rattle.std.proofs.lemmas.Bool.{false≢true, true≢false, and_parts, or_parts, or_from, or_cases, or_left, or_right, not-true}
use Rattle.model.specs.Names.{Name, name_eq, java_lang_object}
use Rattle.model.specs.Tree.{Entry, Utf8, Integer, Float, Long, Double, Class, String, Field, Method, InterfaceMethod, NameAndType, Unusable, FileTree}
use Rattle.model.specs.Spelling.{entry_at}
use Rattle.model.specs.Spells.{IsWhole}
use Rattle.model.specs.Pool.{utf8_of, class_name_of}
use Rattle.model.specs.Conditions.{is_utf8, is_class, entry_indices, names_class}
use Rattle.model.specs.AccessFlags.{is_interface_class}
use Rattle.model.specs.BuiltIn.{built_in_classes}
use Rattle.model.specs.Classes.{Program, name_of, super_name_of, classes_of, class_of, superclass_of, is_within, is_subclass, lineage, interface_names, superinterfaces_of, is_interface, interfaces_from, interfaces_above, all_superinterfaces}
use Rattle.model.specs.Resolution.{is_missing}
use Rattle.model.specs.Hierarchy.{extends_interface, extends_final, is_found_class, implements_class, interface_below_other, redeclares, final_redeclared, static_redeclared, instance_redeclared, redeclared_in_other_package, redeclared_as_private, catches_no_throwable, in_cycle, has_bad_hierarchy}
use Rattle.run_laws.specs.laws.Steps.{ends, Rooted}
use Rattle.run_laws.proofs.laws.Lists.{every_append, every_weaken}
use Rattle.run_laws.proofs.laws.Found.{none_any, every_all, every_both, map_or_at}
use Rattle.run_laws.proofs.laws.Classes.{names_same, within_subclass}
use Rattle.run_laws.proofs.laws.RootedOf.{ends_above, rooted_of}
use Rattle.run_laws.proofs.laws.Homes.{class_named, class_has}
use Rattle.run_laws.proofs.laws.Unrefused.{Unrefused}
use Rattle.run_laws.proofs.laws.LinkedCode.{resolved}

-- ---- entries of a constant pool that has its indices right

every_entry : (q : Entry → Bool) (pool : List Entry) (index : ℕ) → q Unusable ≡ true → list_all q pool ≡ true
    → q (get_or pool index Unusable) ≡ true
every_entry q [] index u h = u
every_entry q (e ∷ pool) zero u h = (and_parts (q e) _ h).0
every_entry q (e ∷ pool) (suc index) u h = every_entry q pool index u (and_parts (q e) _ h).1

pub entry_right : (q : Entry → Bool) (pool : List Entry) (index : ℕ) → q Unusable ≡ true → list_all q pool ≡ true
    → q (entry_at pool index) ≡ true
entry_right q pool zero u h = u
entry_right q pool (suc index) u h = every_entry q pool index u h

pub has_text : (e : Entry) → is_utf8 e ≡ true → is_some (utf8_of e) ≡ true
has_text (Utf8 text) h = refl
has_text (Integer bits) h = h
has_text (Float bits) h = h
has_text (Long bits) h = h
has_text (Double bits) h = h
has_text (Class name) h = h
has_text (String text) h = h
has_text (Field class name) h = h
has_text (Method class name) h = h
has_text (InterfaceMethod class name) h = h
has_text (NameAndType name descriptor) h = h
has_text Unusable h = h

pub has_class_name : (pool : List Entry) (e : Entry) → is_class e ≡ true → entry_indices pool e ≡ true
    → is_some (class_name_of pool e) ≡ true
has_class_name pool (Utf8 text) h i = h
has_class_name pool (Integer bits) h i = h
has_class_name pool (Float bits) h i = h
has_class_name pool (Long bits) h i = h
has_class_name pool (Double bits) h i = h
has_class_name pool (Class name) h i = has_text (entry_at pool name) i
has_class_name pool (String text) h i = h
has_class_name pool (Field class name) h i = h
has_class_name pool (Method class name) h i = h
has_class_name pool (InterfaceMethod class name) h i = h
has_class_name pool (NameAndType name descriptor) h i = h
has_class_name pool Unusable h i = h

-- each file names a superclass
has_super : (file : FileTree) → IsWhole file → is_some (super_name_of file) ≡ true
has_super file whole =
    let a = and_parts (list_all (entry_indices file.pool) file.pool) _ whole.indices in
    let b = and_parts (names_class file.pool file.this_class) _ a.1 in
    let c = and_parts (names_class file.pool file.super_class) _ b.1 in
    has_class_name file.pool (entry_at file.pool file.super_class) c.0 (entry_right (entry_indices file.pool) file.pool file.super_class refl a.0)

-- ---- what is asked of what stands above each class

-- what is so wherever b is
must_hold : (b e : Bool) → b ≡ true → (b && not e) ≡ false → e ≡ true
must_hold true true t q = refl
must_hold true false t q = absurd (true≢false q)
must_hold false e t q = absurd (false≢true t)

pub record Ordered (files : Program) (file : FileTree) : Type 0 where
  pub top : (name_eq (name_of file) java_lang_object || is_some (super_name_of file)) ≡ true
  pub implemented : implements_class files file ≡ false
  pub interface : interface_below_other files file ≡ false
  pub catches : catches_no_throwable files file ≡ false

module _ (files : Program) where
  built_in_ordered : list_all (λ file. (name_eq (name_of file) java_lang_object || is_some (super_name_of file)) &&
      not (implements_class files file || (interface_below_other files file || catches_no_throwable files file))) built_in_classes ≡ true
  unfolding built_in_classes
  built_in_ordered = refl

  ordered_built_in : (file : FileTree) → ((name_eq (name_of file) java_lang_object || is_some (super_name_of file)) &&
      not (implements_class files file || (interface_below_other files file || catches_no_throwable files file))) ≡ true
      → Ordered files file
  ordered_built_in file h =
      let a = and_parts (name_eq (name_of file) java_lang_object || is_some (super_name_of file)) _ h in
      let b = or_parts (implements_class files file) _ (not-true _ a.1) in
      let c = or_parts (interface_below_other files file) (catches_no_throwable files file) b.1 in
      record { top = a.0; implemented = b.0; interface = c.0; catches = c.1 }

  ordered_file : (file : FileTree) → IsWhole file → has_bad_hierarchy files file ≡ false → Ordered files file
  ordered_file file whole h =
      let a = or_parts (in_cycle files file) _ h in
      let b = or_parts (extends_interface files file) _ a.1 in
      let c = or_parts (extends_final files file) _ b.1 in
      let d = or_parts (implements_class files file) _ c.1 in
      let e = or_parts (interface_below_other files file) _ d.1 in
      let f = or_parts (redeclares final_redeclared files file) _ e.1 in
      let g = or_parts (redeclares static_redeclared files file) _ f.1 in
      let i = or_parts (redeclares instance_redeclared files file) _ g.1 in
      let j = or_parts (redeclares redeclared_in_other_package files file) _ i.1 in
      let k = or_parts (redeclares redeclared_as_private files file) _ j.1 in
      record {
        top = or_right (name_eq (name_of file) java_lang_object) _ (has_super file whole);
        implemented = d.0;
        interface = e.0;
        catches = k.1;
      }

  module _ (ok : Unrefused files) where
    pub ordered : (c : Name) (file : FileTree) → class_of files c ≡ Some file → Ordered files file
    ordered c file e =
        class_has files (λ f. Ordered files f)
        (every_weaken _ _ built_in_classes (λ f h. ordered_built_in f h) (every_all _ built_in_classes built_in_ordered))
        (every_weaken _ _ files (λ f p. ordered_file f p.0 p.1) (every_both _ _ files ok.whole ok.hierarchy))
        c file e

    pub rooted : Rooted files
    rooted = rooted_of files (every_cycle files ok.hierarchy)
      where
        every_cycle : (fs : List FileTree) → AllByRecursion (λ file. has_bad_hierarchy files file ≡ false) fs
            → list_any (in_cycle files) fs ≡ false
        every_cycle [] h = refl
        every_cycle (f ∷ fs) h = or_from (in_cycle files f) _ (or_parts (in_cycle files f) _ h.0).0 (every_cycle fs h.1)

    is_found : (name : Name) → is_missing files name ≡ false → (file : FileTree) × (class_of files name ≡ Some file)
    is_found name h = found_in (class_of files name) refl
      where
        found_in : (o : Option FileTree) → class_of files name ≡ o → (file : FileTree) × (class_of files name ≡ Some file)
        found_in None q = absurd (true≢false (sym (ap is_none q) ∙ h))
        found_in (Some file) q = (file, q)

    super_found : (c s : Name) (file : FileTree) → class_of files c ≡ Some file → super_name_of file ≡ Some s
        → (above : FileTree) × (class_of files s ≡ Some above)
    super_found c s file e q =
        is_found s (sym (map_or_at (is_missing files) (super_name_of file) false s q) ∙ (resolved files ok c file e).super)

    super_is : (c s : Name) (file : FileTree) → class_of files c ≡ Some file → super_name_of file ≡ Some s → superclass_of files c ≡ Some s
    super_is c s file e q = ap (λ o. option_and_then super_name_of o) e ∙ q

    -- each class is below Object
    below_by : (k : ℕ) (c : Name) (file : FileTree) → class_of files c ≡ Some file → ends files k c ≡ true
        → is_within files k c java_lang_object ≡ true
    below_by zero c file e h = absurd (false≢true h)
    below_by (suc k) c file e h =
        ⊎_elim (λ t. or_left (name_eq c java_lang_object) _ (subst (λ n. name_eq n java_lang_object ≡ true) (class_named files c file e) t))
        (λ t.
        let s = some_at (super_name_of file) t in
        let above = super_found c s.0 file e s.1 in
        let super = super_is c s.0 file e s.1 in
        or_right (name_eq c java_lang_object) _
        (map_or_at (λ x. is_within files k x java_lang_object) (superclass_of files c) false s.0 super ∙ below_by k s.0 above.0 above.1 (ends_above files k c s.0 super h)))
        (or_cases (name_eq (name_of file) java_lang_object) _ (ordered c file e).top)
      where
        some_at : (o : Option Name) → is_some o ≡ true → (s : Name) × (o ≡ Some s)
        some_at None h = absurd (false≢true h)
        some_at (Some s) h = (s, refl)

    pub below_object : (c : Name) (file : FileTree) → class_of files c ≡ Some file → is_subclass files c java_lang_object ≡ true
    below_object c file e =
        let n = suc (length (classes_of files)) in
        within_subclass files rooted n c java_lang_object (below_by n c file e (rooted c))

    interface_there : (c : Name) → is_interface files c ≡ true
        → (file : FileTree) × (class_of files c ≡ Some file) × (is_interface_class file ≡ true)
    interface_there c h = there (class_of files c) refl
      where
        there : (o : Option FileTree) → class_of files c ≡ o
            → (file : FileTree) × (class_of files c ≡ Some file) × (is_interface_class file ≡ true)
        there None q = absurd (false≢true (sym (ap (λ o. option_map_or is_interface_class o false) q) ∙ h))
        there (Some file) q = (file, q, sym (ap (λ o. option_map_or is_interface_class o false) q) ∙ h)

    pub interface_super : (class : Name) → is_interface files class ≡ true → superclass_of files class ≡ Some java_lang_object
    interface_super class h =
        let i = interface_there class h in
        ap (λ o. option_and_then super_name_of o) i.1 ∙ object_above (is_interface_class i.0) (super_name_of i.0) i.2 (ordered class i.0 i.1).interface
      where
        object_above : (b : Bool) (o : Option Name) → b ≡ true
            → (b && not (option_map_or (λ s. name_eq s java_lang_object) o false)) ≡ false → o ≡ Some java_lang_object
        object_above b None t q = absurd (true≢false (sym (ap (λ x. x && true) t) ∙ q))
        object_above b (Some s) t q = ap (λ x. Some x) (names_same s java_lang_object (must_hold b (name_eq s java_lang_object) t q))

    -- ---- superinterfaces are interfaces

    abbrev AreInterfaces : List Name → Type 0
    AreInterfaces names = AllByRecursion (λ d. is_interface files d ≡ true) names

    found_interface : (d : Name) → is_found_class files d ≡ false → is_missing files d ≡ false → is_interface files d ≡ true
    found_interface d f m = let c = is_found d m in must_hold (is_some (class_of files d)) (is_interface files d) (ap is_some c.1) f

    own_interfaces : (c : Name) → AreInterfaces (superinterfaces_of files c)
    own_interfaces c = own (class_of files c) refl
      where
        own : (o : Option FileTree) → class_of files c ≡ o → AreInterfaces (option_map_or interface_names o [])
        own None q = tt
        own (Some file) q =
            every_weaken (λ d. (is_found_class files d ≡ false) × (is_missing files d ≡ false)) (λ d. is_interface files d ≡ true) (interface_names file) (λ d p. found_interface d p.0 p.1)
            (every_both _ _ (interface_names file) (none_any (is_found_class files) (interface_names file) (ordered c file q).implemented) (none_any (is_missing files) (interface_names file) (resolved files ok c file q).interfaces))

    every_flat : (P Q : Name → Type 0) (f : Name → List Name) (xs : List Name) → AllByRecursion P xs
        → ((x : Name) → P x → AllByRecursion Q (f x)) → AllByRecursion Q (flat_map f xs)
    every_flat P Q f [] h g = tt
    every_flat P Q f (x ∷ xs) h g = every_append Q (f x) (flat_map f xs) (g x h.0) (every_flat P Q f xs h.1 g)

    from_interface : (n : ℕ) (i : Name) → is_interface files i ≡ true → AreInterfaces (interfaces_from files n i)
    from_interface zero i h = (h, tt)
    from_interface (suc n) i h =
        (h, every_flat (λ d. is_interface files d ≡ true) (λ d. is_interface files d ≡ true) (λ x. interfaces_from files n x) (superinterfaces_of files i) (own_interfaces i) (λ x q. from_interface n x q))

    pub all_interfaces : (c : Name) → AreInterfaces (all_superinterfaces files c)
    all_interfaces c =
        every_flat (λ x. Unit {0}) (λ d. is_interface files d ≡ true) (interfaces_above files) (lineage files c) (every_unit (lineage files c))
        (λ x t. every_flat (λ d. is_interface files d ≡ true) (λ d. is_interface files d ≡ true) (interfaces_from files (length (classes_of files))) (superinterfaces_of files x) (own_interfaces x) (λ i q. from_interface (length (classes_of files)) i q))
      where
        every_unit : (xs : List Name) → AllByRecursion (λ x. Unit {0}) xs
        every_unit [] = tt
        every_unit (x ∷ xs) = (tt, every_unit xs)
