-- An instance field is found in a class, and not in an interface: up the superclasses of the class that is named.
use Rattle.std.proofs.Common.{◌≡◌, ◌⊎◌, inl, inr, ℕ, zero, suc, List, [], ◌∷◌, length, Bool, true, false, not, ◌&&◌, is_some, if◌then◌else◌, Option, Some, None, refl, sym, ap, ◌∙◌, subst, ⊎_elim}
use Rattle.std.specs.Option.{option_and_then, option_map_or, option_or, is_none}
use Rattle.std.specs.List.{AllByRecursion, list_all}
use Rattle.std.proofs.lemmas.Bool.{false≢true, true≢false, or_parts, or_right, not-true, false_from_ne_true}
use Rattle.model.specs.Names.{Name, name_eq, Member, java_lang_object}
use Rattle.model.specs.Tree.{FieldTree, FileTree}
use Rattle.model.specs.AccessFlags.{is_interface_class}
use Rattle.model.specs.BuiltIn.{built_in_classes}
use Rattle.model.specs.Classes.{Program, classes_of, class_of, superclass_of, is_within, is_subclass, interface_names, superinterfaces_of, is_interface}
use Rattle.model.specs.Lookup.{is_field, field_in, field_of, in_class, where_so, first_found, field_in_class, field_from, find_field, is_instance_field}
use Rattle.model.specs.Hierarchy.{is_found_class}
use Rattle.model.specs.Resolution.{is_missing}
use Rattle.model.specs.Profile.{field_of_left_out_type, left_out_constant, instance_field_of_interface, field_outside_profile, is_outside_profile}
use Rattle.model.specs.ReferenceTypes.{ClassType, PrimitiveArray, ReferenceArray}
use Rattle.run_laws.proofs.laws.Lists.{every_weaken}
use Rattle.run_laws.proofs.laws.Found.{found_has, none_any, every_all, every_both, some_from, map_or_at}
use Rattle.run_laws.proofs.laws.Classes.{names_same, subclass_self, subclass_trans, object_is_top}
use Rattle.run_laws.proofs.laws.Homes.{class_has}
use Rattle.run_laws.proofs.laws.Unrefused.{Unrefused}
use Rattle.run_laws.proofs.laws.LinkedCode.{resolved}
use Rattle.run_laws.proofs.laws.LinkedClasses.{ordered, rooted, interface_super}
use Rattle.run_laws.specs.word_operands.Receivers.{AreInstances, NamesField}

pub or_some : {A : Type 0} (o p : Option A) (a : A) → option_or o p ≡ Some a → (o ≡ Some a) ⊎ (p ≡ Some a)
or_some None p a e = inr e
or_some (Some b) p a e = inl e

-- what is so of what is found is so at the place where it is found
pub where_is : (b : Bool) (x found : Member) → where_so b x ≡ Some found → found ≡ x
where_is true x found e = let q : x ≡ found = cc in sym q
where_is false x found e = absurd cc

first_of : (P : Name → Type 0) (Q : Type 0) (look : Name → Option Member) (names : List Name) (found : Member) → AllByRecursion P names
    → ((x : Name) → P x → look x ≡ Some found → Q) → first_found look names ≡ Some found → Q
first_of P Q look [] found a f e = absurd cc
first_of P Q look (x ∷ xs) found a f e = ⊎_elim (λ here. f x a.0 here) (λ later. first_of P Q look xs found a.1 f later) (or_some (look x) (first_found look xs) found e)

module _ (files : Program) where
  -- ---- the fields of interfaces are static

  abbrev Static : FileTree → Type 0
  Static file = AllByRecursion (λ f. instance_field_of_interface file f ≡ false) file.fields

  built_in_static : list_all (λ file. list_all (λ f. not (instance_field_of_interface file f)) file.fields) built_in_classes ≡ true
  unfolding built_in_classes
  built_in_static = refl

  static_file : (file : FileTree) → is_outside_profile file ≡ false → Static file
  static_file file h =
      every_weaken (λ f. field_outside_profile file f ≡ false) (λ f. instance_field_of_interface file f ≡ false) file.fields
      (λ f q. (or_parts (left_out_constant file f) _ (or_parts (field_of_left_out_type file f) _ q).1).1)
      (none_any (field_outside_profile file) file.fields (or_parts _ _ h).0)

  -- Object has no field
  object_declares_none : (m : Member) → field_in_class files m java_lang_object ≡ None
  unfolding built_in_classes
  object_declares_none m = refl

  object_implements_none : superinterfaces_of files java_lang_object ≡ []
  unfolding built_in_classes
  object_implements_none = refl

  none_of_object : (n : ℕ) (m found : Member) → field_from files n m java_lang_object ≡ Some found → ⊥
  none_of_object zero m found e = absurd cc
  none_of_object (suc n) m found e =
      no_more
      (subst (λ o. option_or o (option_or (first_found (λ i. field_from files n m i) []) (option_and_then (λ s. field_from files n m s) None)) ≡ Some found) (object_declares_none m)
      (subst (λ l. option_or (field_in_class files m java_lang_object) (option_or (first_found (λ i. field_from files n m i) l) (option_and_then (λ s. field_from files n m s) None)) ≡ Some found) object_implements_none
      (subst (λ o. option_or (field_in_class files m java_lang_object) (option_or (first_found (λ i. field_from files n m i) (superinterfaces_of files java_lang_object)) (option_and_then (λ s. field_from files n m s) o)) ≡ Some found) (object_is_top files) e)))
    where
      no_more : None ≡ Some found → ⊥
      no_more q = absurd cc

  module _ (ok : Unrefused files) where
    fields_static : (c : Name) (file : FileTree) → class_of files c ≡ Some file → Static file
    fields_static c file e =
        class_has files Static
        (every_weaken (λ f. list_all (λ x. not (instance_field_of_interface f x)) f.fields ≡ true) Static built_in_classes
        (λ f h. every_weaken (λ x. not (instance_field_of_interface f x) ≡ true) (λ x. instance_field_of_interface f x ≡ false) f.fields (λ x q. not-true _ q) (every_all (λ x. not (instance_field_of_interface f x)) f.fields h))
        (every_all (λ file. list_all (λ f. not (instance_field_of_interface file f)) file.fields) built_in_classes built_in_static))
        (every_weaken (λ f. is_outside_profile f ≡ false) Static files static_file ok.profile)
        c file e

    abbrev IsOfInstances : Member → Type 0
    IsOfInstances field = option_map_or is_instance_field (field_of files field) false ≡ true

    never_both : (interface instance : Bool) → (interface && instance) ≡ false → interface ≡ true → instance ≡ true → ⊥
    never_both true instance h i q = false≢true (sym h ∙ q)
    never_both false instance h i q = false≢true i

    own_static : (c : Name) (field : Member) → field.class ≡ c → is_interface files c ≡ true → IsOfInstances field → ⊥
    own_static c field at i instance = by_class (class_of files c) refl
      where
        by_field : (file : FileTree) → class_of files c ≡ Some file → (o : Option FieldTree)
            → field_in file field.name field.descriptor ≡ o → option_map_or is_instance_field o false ≡ true → ⊥
        by_field file q None e h = false≢true h
        by_field file q (Some f) e h =
            never_both (is_interface_class file) (is_instance_field f)
            (found_has (λ x. instance_field_of_interface file x ≡ false) (is_field file.pool field.name field.descriptor) file.fields f (fields_static c file q) e)
            (sym (map_or_at is_interface_class (class_of files c) false file q) ∙ i) h

        by_class : (o : Option FileTree) → class_of files c ≡ o → ⊥
        by_class None q = false≢true (sym (ap (λ o. option_map_or is_interface_class o false) q) ∙ i)
        by_class (Some file) q =
            by_field file q (field_in file field.name field.descriptor) refl
            (subst (λ o. option_map_or is_instance_field (option_and_then (λ f. field_in f field.name field.descriptor) o) false ≡ true) q
            (subst (λ n. option_map_or is_instance_field (option_and_then (λ f. field_in f field.name field.descriptor) (class_of files n)) false ≡ true) at instance))

    -- ---- superinterfaces are interfaces

    must_hold : (b e : Bool) → b ≡ true → (b && not e) ≡ false → e ≡ true
    must_hold true true t q = refl
    must_hold true false t q = absurd (true≢false q)
    must_hold false e t q = absurd (false≢true t)

    found_interface : (d : Name) → is_found_class files d ≡ false → is_missing files d ≡ false → is_interface files d ≡ true
    found_interface d f m = must_hold (is_some (class_of files d)) (is_interface files d) (there (class_of files d) m) f
      where
        there : (o : Option FileTree) → is_none o ≡ false → is_some o ≡ true
        there None h = absurd (true≢false h)
        there (Some file) h = refl

    own_interfaces : (c : Name) → AllByRecursion (λ d. is_interface files d ≡ true) (superinterfaces_of files c)
    own_interfaces c = own (class_of files c) refl
      where
        own : (o : Option FileTree) → class_of files c ≡ o
            → AllByRecursion (λ d. is_interface files d ≡ true) (option_map_or interface_names o [])
        own None q = tt
        own (Some file) q =
            every_weaken (λ d. (is_found_class files d ≡ false) × (is_missing files d ≡ false)) (λ d. is_interface files d ≡ true) (interface_names file) (λ d p. found_interface d p.0 p.1)
            (every_both _ _ (interface_names file) (none_any (is_found_class files) (interface_names file) (ordered files ok c file q).implemented) (none_any (is_missing files) (interface_names file) (resolved files ok c file q).interfaces))

    -- ---- where a field is found

    declared_at : (m : Member) (c : Name) (found : Member) → field_in_class files m c ≡ Some found → found ≡ in_class c m
    declared_at m c found e = where_is (option_map_or (λ (f : FieldTree). true) (field_of files (in_class c m)) false) (in_class c m) found e

    -- the three places
    places : (n : ℕ) (m : Member) (c : Name) (found : Member) (Q : Type 0)
        → (field_in_class files m c ≡ Some found → Q)
        → (first_found (λ i. field_from files n m i) (superinterfaces_of files c) ≡ Some found → Q)
        → ((s : Name) → superclass_of files c ≡ Some s → field_from files n m s ≡ Some found → Q)
        → field_from files (suc n) m c ≡ Some found → Q
    places n m c found Q here aside above e =
        ⊎_elim here
        (λ other. ⊎_elim aside
        (λ super. let s = some_from (λ x. field_from files n m x) (superclass_of files c) found super in above s.0 s.1 s.2)
        (or_some (first_found (λ i. field_from files n m i) (superinterfaces_of files c)) (option_and_then (λ s. field_from files n m s) (superclass_of files c)) found other))
        (or_some (field_in_class files m c) (option_or (first_found (λ i. field_from files n m i) (superinterfaces_of files c)) (option_and_then (λ s. field_from files n m s) (superclass_of files c))) found e)

    none_of_interface : (n : ℕ) (m found : Member) (i : Name) → is_interface files i ≡ true → IsOfInstances found
        → field_from files n m i ≡ Some found → ⊥
    none_of_interface zero m found i h instance e = absurd cc
    none_of_interface (suc n) m found i h instance e =
        places n m i found ⊥
        (λ own. own_static i found (ap (λ (x : Member). x.class) (declared_at m i found own)) h instance)
        (λ aside. first_of (λ d. is_interface files d ≡ true) ⊥ (λ x. field_from files n m x) (superinterfaces_of files i) found (own_interfaces i) (λ x q r. none_of_interface n m found x q instance r) aside)
        (λ s q above. none_of_object n m found (subst (λ x. field_from files n m x ≡ Some found) (some_name s java_lang_object (sym q ∙ interface_super files ok i h)) above))
        e
      where
        some_name : (a b : Name) → Some a ≡ Some b → a ≡ b
        some_name a b e = cc

    -- up the superclasses
    pub found_above : (n : ℕ) (m found : Member) (c : Name) → IsOfInstances found → field_from files n m c ≡ Some found
        → (class : Name) × (found ≡ in_class class m) × (is_within files n c class ≡ true)
    found_above zero m found c instance e = absurd cc
    found_above (suc n) m found c instance e =
        places n m c found ((class : Name) × (found ≡ in_class class m) × (is_within files (suc n) c class ≡ true))
        (λ own. (c, declared_at m c found own, subclass_self files (suc n) c))
        (λ aside. absurd (first_of (λ d. is_interface files d ≡ true) ⊥ (λ x. field_from files n m x) (superinterfaces_of files c) found (own_interfaces c) (λ x q r. none_of_interface n m found x q instance r) aside))
        (λ s q above.
        let f = found_above n m found s instance above in
        (f.0, f.1, or_right (name_eq c f.0) _ (map_or_at (λ x. is_within files n x f.0) (superclass_of files c) false s q ∙ f.2)))
        e

    -- ---- what may come to be a receiver

    of_classes : (named class : Name) → name_eq named java_lang_object ≡ false → is_subclass files named class ≡ true
        → AreInstances files (ClassType named) class
    of_classes named class other below (ClassType own) e = (own, refl, subclass_trans files (rooted files ok) own named class e below)
    of_classes named class other below (PrimitiveArray of) e = absurd (false≢true (sym other ∙ e))
    of_classes named class other below (ReferenceArray of) e = absurd (false≢true (sym other ∙ e))

    pub names_field : (named field : Member) → find_field files named ≡ Some field → IsOfInstances field → NamesField files named field
    names_field named field e instance =
        let n = length (classes_of files) in
        let f = found_above n named field named.class instance e in
        let class_is : f.0 ≡ field.class = sym (ap (λ (x : Member). x.class) f.1) in
        let below : is_subclass files named.class field.class ≡ true = subst (λ c. is_subclass files named.class c ≡ true) class_is f.2 in
        let no_object : name_eq named.class java_lang_object ≡ false =
        false_from_ne_true _ (λ h. none_of_object n named field (subst (λ c. field_from files n named c ≡ Some field) (names_same named.class java_lang_object h) e))
        in
        let no_interface : is_interface files named.class ≡ false = false_from_ne_true _ (λ h. none_of_interface n named field named.class h instance e) in
        let own = of_classes named.class field.class no_object below in
        record {
          name = ap (λ (x : Member). x.name) f.1;
          descriptor = ap (λ (x : Member). x.descriptor) f.1;
          no_object = no_object;
          no_interface = no_interface;
          below = below;
          receivers = subst (λ (b : Bool). AreInstances files (ClassType (if b then java_lang_object else named.class)) field.class) (sym no_interface) own;
          own = own;
        }
