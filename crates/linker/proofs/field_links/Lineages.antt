-- Classes and their superclasses in linked programs, and the fields that these declare.
use Rattle.std.proofs.Common.{◌≡◌, ℕ, zero, suc, ◌+◌, Bool, true, false, ◌&&◌, ◌||◌, List, [], ◌∷◌, ◌++◌, length, map, reverse, refl, sym, ap, subst, ⊎_elim, ◌∙◌, arith, Option, Some, None}
use Rattle.std.specs.Prelude.{position, is_some}
use Rattle.std.specs.Option.{option_and_then, option_map_or}
use Rattle.std.specs.List.{AllByRecursion, filter, flat_map}
use Rattle.std.proofs.lemmas.Bool.{false≢true, or_cases, false_from_ne_true}
use Rattle.std.proofs.lemmas.List.{append-nil, reverse-append}
use Rattle.std.proofs.lemmas.Grind.{flat_map-append}
use Rattle.model.specs.Names.{Name, name_eq, Member, member_eq, java_lang_object}
use Rattle.model.specs.Tree.{FileTree}
use Rattle.model.specs.BuiltIn.{built_in_classes}
use Rattle.model.specs.Classes.{Program, name_of, super_name_of, class_of, classes_of, superclass_of, is_within, is_subclass, lineage_of, lineage}
use Rattle.model.specs.AccessFlags.{is_instance_field}
use Rattle.model.specs.Lookup.{own_instance_fields, instance_fields, field_member}
use Rattle.run_laws.specs.laws.Steps.{ends, Rooted}
use Rattle.run_laws.proofs.laws.Classes.{names_same}
use Rattle.run_laws.proofs.laws.RootedOf.{ends_above, lineage_within, within_ends, on_super_of}
use Rattle.run_laws.proofs.laws.Homes.{class_named}
use Rattle.run_laws.proofs.laws.LinkedClasses as linked_classes
use Rattle.run_laws.proofs.laws.Unrefused.{Unrefused}
use Rattle.linker.proofs.field_links.Positions.{position_before, position_behind}
use Rattle.run_laws.proofs.laws.Lists.{every_append}

-- ---- lists

pub every_flat : {A B : Type 0} (P : A → Type 0) (Q : B → Type 0) (f : A → List B) → ((x : A) → P x → AllByRecursion Q (f x))
    → (xs : List A) → AllByRecursion P xs → AllByRecursion Q (flat_map f xs)
every_flat P Q f h [] k = tt
every_flat P Q f h (x ∷ xs) k = every_append Q (f x) (flat_map f xs) (h x k.0) (every_flat P Q f h xs k.1)

every_reverse : {A : Type 0} (P : A → Type 0) (xs : List A) → AllByRecursion P xs → AllByRecursion P (reverse xs)
every_reverse P [] h = tt
every_reverse P (x ∷ xs) h = subst (AllByRecursion P) (sym (reverse-append (x ∷ []) xs)) (every_append P (reverse xs) (x ∷ []) (every_reverse P xs h.1) (h.0, tt))

pub every_map : {A B : Type 0} (P : B → Type 0) (f : A → B) → ((x : A) → P (f x)) → (xs : List A) → AllByRecursion P (map f xs)
every_map P f h [] = tt
every_map P f h (x ∷ xs) = (h x, every_map P f h xs)

module _ (files : Program) where
  abbrev pub own : Name → List Member
  own = own_instance_fields files

  -- the fields of the first so many classes of a lineage
  abbrev pub fields_to : ℕ → Name → List Member
  fields_to n c = flat_map own (reverse (lineage_of files n c))

  -- those of the superclass first
  pub next_fields : (n : ℕ) (c s : Name) → superclass_of files c ≡ Some s → fields_to (suc n) c ≡ fields_to n s ++ own c
  next_fields n c s q =
      ap (λ (o : Option Name). flat_map own (reverse (c ∷ option_map_or (λ x. lineage_of files n x) o []))) q
      ∙ ap (flat_map own) (reverse-append (c ∷ []) (lineage_of files n s))
      ∙ flat_map-append own (reverse (lineage_of files n s)) (c ∷ [])
      ∙ ap (λ (l : List Member). fields_to n s ++ l) (append-nil (own c))

  pub top_fields : (n : ℕ) (c : Name) → superclass_of files c ≡ None → fields_to (suc n) c ≡ own c
  top_fields n c q = ap (λ (o : Option Name). flat_map own (reverse (c ∷ option_map_or (λ x. lineage_of files n x) o []))) q ∙ append-nil (own c)

  -- Object declares no field
  object_fields : own java_lang_object ≡ []
  unfolding built_in_classes
  object_fields = refl

  -- ---- who is above

  -- no superclass leads back
  no_way_back : (k : ℕ) (d : Name) → ends files k d ≡ true → (m : ℕ) (s : Name) → superclass_of files d ≡ Some s
      → is_within files m s d ≡ true → ⊥
  no_way_back zero d e m s q w = false≢true e
  no_way_back (suc k) d e m s q w = no_way_back k d (within_ends files m k s d w (ends_above files k d s q e)) m s q w

  module _ (ok : Unrefused files) where
    rooted : Rooted files
    rooted = linked_classes.rooted files ok

    -- a class with no superclass declares no field
    top_none : (c : Name) → superclass_of files c ≡ None → own c ≡ []
    top_none c q = by (class_of files c) refl
      where
        is_top : (file : FileTree) → class_of files c ≡ Some file
            → (name_eq (name_of file) java_lang_object || is_some (super_name_of file)) ≡ true → own c ≡ []
        is_top file e t = ⊎_elim
            (λ h. ap own (sym (class_named files c file e) ∙ names_same (name_of file) java_lang_object h) ∙ object_fields)
            (λ h. absurd (some_none (super_name_of file) h (sym (ap (λ (o : Option FileTree). option_and_then super_name_of o) e) ∙ q)))
            (or_cases (name_eq (name_of file) java_lang_object) _ t)
          where
            some_none : (o : Option Name) → is_some o ≡ true → o ≡ None → ⊥
            some_none None h e = false≢true h
            some_none (Some x) h e = cc

        by : (o : Option FileTree) → class_of files c ≡ o → own c ≡ []
        by None e = ap (λ (o : Option FileTree). option_map_or (λ (file : FileTree). map (field_member c file.pool) (filter is_instance_field file.fields)) o []) e
        by (Some file) e = is_top file e (linked_classes.ordered files ok c file e).top

    -- one step more finds no more fields, where the superclasses end
    enough : (n : ℕ) (c : Name) → ends files (suc n) c ≡ true → fields_to n c ≡ fields_to (suc n) c
    enough zero c e = by (superclass_of files c) refl e
      where
        by : (o : Option Name) → superclass_of files c ≡ o → option_map_or (λ x. false) o true ≡ true → [] ≡ fields_to (suc zero) c
        by None q h = sym (top_fields zero c q ∙ top_none c q)
        by (Some s) q h = absurd (false≢true h)
    enough (suc n) c e = by (λ s h. enough n s h) (superclass_of files c) refl
      where
        by : ((s : Name) → ends files (suc n) s ≡ true → fields_to n s ≡ fields_to (suc n) s) → (o : Option Name)
            → superclass_of files c ≡ o → fields_to (suc n) c ≡ fields_to (suc (suc n)) c
        by more None q = top_fields n c q ∙ sym (top_fields (suc n) c q)
        by more (Some s) q = next_fields n c s q ∙ ap (λ (l : List Member). l ++ own c) (more s (ends_above files (suc n) c s q e)) ∙ sym (next_fields (suc n) c s q)

    some_classes : (m : ℕ) × (length (classes_of files) ≡ suc m)
    unfolding built_in_classes
    some_classes = (36 + length files, omega arith)

    -- the fields of a class are those of its superclass and its own
    pub fields_below : (c s : Name) → superclass_of files c ≡ Some s → instance_fields files c ≡ instance_fields files s ++ own c
    fields_below c s q =
        let m = some_classes in
        ap (λ n. fields_to n c) m.1 ∙ next_fields m.0 c s q
        ∙ ap (λ (l : List Member). l ++ own c) (enough m.0 s (ends_above files (suc m.0) c s q (subst (λ n. ends files (suc n) c ≡ true) m.1 (rooted c))) ∙ sym (ap (λ n. fields_to n s) m.1))

    pub fields_top : (c : Name) → superclass_of files c ≡ None → instance_fields files c ≡ own c
    fields_top c q = let m = some_classes in ap (λ n. fields_to n c) m.1 ∙ top_fields m.0 c q

    -- ---- a field of a class stands at the same place in its subclasses

    kept_within : (p : Member → Bool) (n : ℕ) (c d : Name) (k : ℕ) → is_within files n c d ≡ true
        → position p (instance_fields files d) ≡ Some k → position p (instance_fields files c) ≡ Some k
    kept_within p zero c d k w e = ap (λ x. position p (instance_fields files x)) (names_same c d w) ∙ e
    kept_within p (suc n) c d k w e =
        ⊎_elim (λ h. ap (λ x. position p (instance_fields files x)) (names_same c d h) ∙ e)
        (λ h. on_super_of files (λ x. is_within files n x d) c (position p (instance_fields files c) ≡ Some k)
        (λ s q v. ap (position p) (fields_below c s q) ∙ position_before p (instance_fields files s) (own c) k (kept_within p n s d k v e))
        (superclass_of files c) refl h)
        (or_cases (name_eq c d) _ w)

    pub kept : (p : Member → Bool) (c d : Name) (k : ℕ) → is_subclass files c d ≡ true → position p (instance_fields files d) ≡ Some k
        → position p (instance_fields files c) ≡ Some k
    kept p c d k w e = kept_within p (length (classes_of files)) c d k w e

    -- ---- no superclass has a field of the class

    own_class : (c : Name) → AllByRecursion (λ (f : Member). f.class ≡ c) (own c)
    own_class c = by (class_of files c)
      where
        by : (o : Option FileTree) → AllByRecursion (λ (f : Member). f.class
            ≡ c) (option_map_or (λ (file : FileTree). map (field_member c file.pool) (filter is_instance_field file.fields)) o [])
        by None = tt
        by (Some file) = every_map (λ (f : Member). f.class ≡ c) (field_member c file.pool) (λ f. refl) (filter is_instance_field file.fields)

    pub none_above : (c s : Name) (field : Member) → superclass_of files c ≡ Some s → field.class ≡ c
        → AllByRecursion (λ (f : Member). member_eq f field ≡ false) (instance_fields files s)
    none_above c s field q is =
        let n = length (classes_of files) in
        every_flat (λ x. name_eq x c ≡ false) (λ (f : Member). member_eq f field ≡ false) own
        (λ x other. weaken (λ (f : Member). f.class ≡ x) (λ (f : Member). member_eq f field ≡ false) (λ f named. differs f x named other) (own x) (own_class x))
        (reverse (lineage files s))
        (every_reverse (λ x. name_eq x c ≡ false) (lineage files s)
        (weaken (λ x. is_within files n s x ≡ true) (λ x. name_eq x c ≡ false) (λ x w. false_from_ne_true (name_eq x c) (λ h. no_way_back (suc n) c (rooted c) n s q (subst (λ y. is_within files n s y ≡ true) (names_same x c h) w))) (lineage files s) (lineage_within files n n s (omega arith))))
      where
        weaken : {A : Type 0} (P Q : A → Type 0) → ((x : A) → P x → Q x) → (xs : List A) → AllByRecursion P xs → AllByRecursion Q xs
        weaken P Q f [] h = tt
        weaken P Q f (x ∷ xs) h = (f x h.0, weaken P Q f xs h.1)

        differs : (f : Member) (x : Name) → f.class ≡ x → name_eq x c ≡ false → member_eq f field ≡ false
        differs f x named other = ap (λ b. b && (name_eq f.name field.name && name_eq f.descriptor field.descriptor)) (ap (λ y. name_eq y field.class) named ∙ ap (name_eq x) is ∙ other)

    -- the place of a field among those of its class
    pub slot_below : (c s : Name) (field : Member) (k : ℕ) → superclass_of files c ≡ Some s → field.class ≡ c
        → position (λ (f : Member). member_eq f field) (own c) ≡ Some k
        → position (λ (f : Member). member_eq f field) (instance_fields files c) ≡ Some (length (instance_fields files s) + k)
    slot_below c s field k q is e =
        ap (position (λ (f : Member). member_eq f field)) (fields_below c s q)
        ∙ position_behind (λ (f : Member). member_eq f field) (instance_fields files s) (own c) k (none_above c s field q is) e
