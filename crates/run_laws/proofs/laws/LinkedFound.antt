-- What linking gives of what is found above a class: subtypes, and the methods that a reference names.
use Rattle.std.proofs.Common.{◌≡◌, ◌⊎◌, inl, inr, ℕ, zero, suc, List, [], ◌∷◌, ◌++◌, length, flat_map, Bool, true, false, not, ◌==◌, if◌then◌else◌, Option, Some, None, refl, sym, ap, ◌∙◌, subst, ⊎_elim, arith}
use Rattle.std.specs.Option.{option_map_or, option_and_then, option_or}
use Rattle.std.specs.List.{AllByRecursion, list_any}
use Rattle.std.proofs.lemmas.Bool.{false≢true, or_parts, or_cases, or_right, not-true, cond_both, eqb-true}
use Rattle.model.specs.declared.class_file.ExceptionEntry.{ExceptionEntry}
use Rattle.model.specs.Names.{Name, name_eq, Member, java_lang_object}
use Rattle.model.specs.Tree.{Entry, MethodTree}
use Rattle.model.specs.Pool.{class_name_at}
use Rattle.model.specs.AccessFlags.{is_private_method}
use Rattle.model.specs.BuiltIn.{built_in_classes}
use Rattle.model.specs.built_in.Object.{object_class}
use Rattle.model.specs.Classes.{Program, Body, super_name_of, classes_of, class_of, superclass_of, is_within, is_subclass, lineage_of, lineage, interface_names, is_interface, interfaces_from, interfaces_above, all_superinterfaces, is_method, body_of}
use Rattle.model.specs.ReferenceTypes.{ClassType, is_subclass_or_implements, is_assignable}
use Rattle.model.specs.DescribedTypes.{made_type}
use Rattle.model.specs.DescriptorParts.{is_array_class}
use Rattle.model.specs.Lookup.{method_of, where_so, in_class, first_found, method_in_class, any_method, searched_class, find_method, is_public_instance_method, find_interface_method}
use Rattle.model.specs.Hierarchy.{catch_class, is_no_throwable}
use Rattle.run_laws.proofs.laws.Lists.{every_weaken}
use Rattle.run_laws.proofs.laws.Found.{found_has, none_any, every_all, map_or_at, option_cases}
use Rattle.run_laws.proofs.laws.Classes.{names_same, name_self, subclass_self, subclass_trans, within_subclass, above_object}
use Rattle.run_laws.proofs.laws.RootedOf.{lineage_within}
use Rattle.run_laws.proofs.laws.Homes.{coded_of}
use Rattle.run_laws.proofs.laws.Linked.{IsCallable}
use Rattle.run_laws.proofs.laws.Unrefused.{Unrefused}
use Rattle.run_laws.proofs.laws.LinkedCode.{no_code}
use Rattle.run_laws.proofs.laws.LinkedMethods.{interface_is_public}
use Rattle.run_laws.proofs.laws.LinkedClasses.{ordered, rooted, below_object, interface_super, all_interfaces}

among : (P : Name → Type 0) (xs : List Name) (d : Name) → AllByRecursion P xs → list_any (λ i. name_eq i d) xs ≡ true → P d
among P [] d a h = absurd (false≢true h)
among P (x ∷ xs) d a h = ⊎_elim (λ t. subst P (names_same x d t) a.0) (λ t. among P xs d a.1 t) (or_cases (name_eq x d) _ h)

module _ (files : Program) where
  -- what is not there has nothing above it
  no_superinterfaces : (c : Name) (n : ℕ) → class_of files c ≡ None → flat_map (interfaces_above files) (lineage_of files n c) ≡ []
  no_superinterfaces c zero e = refl
  no_superinterfaces c (suc n) e =
      ap (λ o. flat_map (interfaces_above files) (c ∷ option_map_or (λ s. lineage_of files n s) (option_and_then super_name_of o) [])) e ∙ alone c e
    where
      alone : (c : Name) → class_of files c ≡ None → flat_map (interfaces_above files) (c ∷ []) ≡ []
      alone c e = ap (λ o. flat_map (interfaces_from files (length (classes_of files))) (option_map_or interface_names o []) ++ []) e

  module _ (ok : Unrefused files) where
    super_interface : (c d : Name) → superclass_of files c ≡ Some d → is_subclass files c d ≡ true
    super_interface c d e = within_subclass files (rooted files ok) 1 c d (within_one c d e)
      where
        within_one : (c d : Name) → superclass_of files c ≡ Some d → is_within files 1 c d ≡ true
        within_one c d e = or_right (name_eq c d) _ (map_or_at (λ s. is_within files 0 s d) (superclass_of files c) false d e ∙ name_self d)

    -- what has superinterfaces is there, so it is below Object
    implementer_below : (c d : Name) → list_any (λ i. name_eq i d) (all_superinterfaces files c) ≡ true
        → is_subclass files c java_lang_object ≡ true
    implementer_below c d h =
        ⊎_elim (λ none. absurd (false≢true (ap (λ l. list_any (λ i. name_eq i d) l)
        (sym (no_superinterfaces c (length (classes_of files)) none)) ∙ h)))
        (λ f. below_object files ok c f.0 f.1)
        (option_cases (class_of files c))

    below_made : (c d : Name) → is_subclass files c d ≡ true → is_assignable files (ClassType c) (made_type files (ClassType d)) ≡ true
    below_made c d h =
        cond_both (is_interface files d) java_lang_object d (λ n. is_subclass files c n ≡ true)
        (λ i. subclass_trans files (rooted files ok) c d java_lang_object h (super_interface d java_lang_object (interface_super files ok d i)))
        (λ i. h)

    pub subtype_made : (c d : Name) → is_subclass_or_implements files c d ≡ true
        → is_assignable files (ClassType c) (made_type files (ClassType d)) ≡ true
    subtype_made c d h =
        ⊎_elim (below_made c d)
        (λ i. ⊎_elim
        (λ same. below_made c d (subst (λ n. is_subclass files c n ≡ true) (names_same c d same) (subclass_self files (length (classes_of files)) c)))
        (λ above.
        cond_both (is_interface files d) java_lang_object d (λ n. is_subclass files c n ≡ true)
        (λ t. implementer_below c d above)
        (λ f. absurd (false≢true (sym f ∙ among (λ x. is_interface files x ≡ true) (all_superinterfaces files c) d (all_interfaces files ok c) above))))
        (or_cases (name_eq c d) _ i))
        (or_cases (is_subclass files c d) _ h)

    -- ---- methods that a reference finds

    declared_there : (wanted : MethodTree → Bool) (m : Member) (class : Name) (found : Member)
        → method_in_class files wanted m class ≡ Some found → found ≡ in_class class m
    declared_there wanted m class found e = of_where (option_map_or wanted (method_of files (in_class class m)) false) (in_class class m) found e
      where
        of_where : (b : Bool) (x found : Member) → where_so b x ≡ Some found → found ≡ x
        of_where true x found e = let q : x ≡ found = cc in sym q
        of_where false x found e = absurd cc

    or_some : {A : Type 0} (o p : Option A) (a : A) → option_or o p ≡ Some a → (o ≡ Some a) ⊎ (p ≡ Some a)
    or_some None p a e = inr e
    or_some (Some b) p a e = inl e

    found_first : (P : Name → Type 0) (wanted : MethodTree → Bool) (m : Member) (xs : List Name) (found : Member) → AllByRecursion P xs
        → first_found (method_in_class files wanted m) xs ≡ Some found → (class : Name) × (P class) × (found ≡ in_class class m)
    found_first P wanted m [] found a e = absurd cc
    found_first P wanted m (x ∷ xs) found a e =
        ⊎_elim (λ own. (x, a.0, declared_there wanted m x found own)) (λ later. found_first P wanted m xs found a.1 later)
        (or_some (method_in_class files wanted m x) (first_found (method_in_class files wanted m) xs) found e)

    -- in an interface above, no private method is found
    not_private : (named found : Member) (m : MethodTree) (class : Name) → IsCallable named → is_interface files class ≡ true
        → found ≡ in_class class named → method_of files found ≡ Some m → is_private_method m ≡ false
    not_private named found m class callable i e q =
        interface_is_public files ok (in_class class named) m (subst (λ f. method_of files f ≡ Some m) e q) i callable

    object_public : (m : MethodTree) (name descriptor : Name)
        → method_of files (record { class = java_lang_object; name = name; descriptor = descriptor }) ≡ Some m → is_private_method m ≡ false
    unfolding built_in_classes
    object_public m name descriptor e =
        not-true (is_private_method m)
        (found_has (λ x. not (is_private_method x) ≡ true) (is_method object_class.pool name descriptor) object_class.methods m (every_all (λ x. not (is_private_method x)) object_class.methods refl) e)

    -- what is found private is found from a class that the class of an array is not
    private_of : (named found : Member) (m : MethodTree) → IsCallable named → find_method files named ≡ Some found
        → method_of files found ≡ Some m → is_private_method m ≡ true
        → (is_subclass files (searched_class named.class) found.class ≡ true) × (found ≡ in_class found.class named)
    private_of named found m callable e q private =
        let class = searched_class named.class in
        ⊎_elim
        (λ above.
        let n = length (classes_of files) in
        let f = found_first (λ y. is_within files n class y ≡ true) any_method named (lineage files class) found (lineage_within files n n class (omega arith)) above in
        (subst (λ (x : Member). is_subclass files class x.class ≡ true) (sym f.2) f.1, f.2 ∙ ap (λ (x : Member). in_class x.class named) (sym f.2)))
        (λ aside.
        let f = found_first (λ y. is_interface files y ≡ true) any_method named (all_superinterfaces files class) found (all_interfaces files ok class) aside in
        absurd (false≢true (sym (not_private named found m f.0 callable f.1 f.2 q) ∙ private)))
        (or_some (first_found (method_in_class files any_method named) (lineage files class)) _ found e)

    -- Object has no private method
    pub private_is_of_class : (named found : Member) (m : MethodTree) → IsCallable named → find_method files named ≡ Some found
        → method_of files found ≡ Some m → is_private_method m ≡ true → is_array_class named.class ≡ false
    private_is_of_class named found m callable e q private = by (is_array_class named.class) refl
      where
        by : (b : Bool) → is_array_class named.class ≡ b → is_array_class named.class ≡ false
        by false a = a
        by true a =
            let x = private_of named found m callable e q private in
            let top : java_lang_object ≡ found.class = above_object files found.class (subst (λ b. is_subclass files (if b then java_lang_object else named.class) found.class ≡ true) a x.0) in
            let there = subst (λ (y : Member). method_of files y ≡ Some m) (x.1 ∙ ap (λ c. in_class c named) (sym top)) q in
            absurd (false≢true (sym (object_public m named.name named.descriptor there) ∙ private))

    pub private_is_above : (named found : Member) (m : MethodTree) → IsCallable named → find_method files named ≡ Some found
        → method_of files found ≡ Some m → is_private_method m ≡ true → is_subclass files named.class found.class ≡ true
    private_is_above named found m callable e q private =
        subst (λ b. is_subclass files (if b then java_lang_object else named.class) found.class ≡ true) (private_is_of_class named found m callable e q private)
        (private_of named found m callable e q private).0

    pub interface_found_is_public : (named found : Member) (m : MethodTree) → IsCallable named → is_interface files named.class ≡ true
        → find_interface_method files named ≡ Some found → method_of files found ≡ Some m → is_private_method m ≡ false
    interface_found_is_public named found m callable i e q =
        ⊎_elim (λ own. not_private named found m named.class callable i (declared_there any_method named named.class found own) q)
        (λ other. ⊎_elim
        (λ object. object_public m named.name named.descriptor (subst (λ f. method_of files f ≡ Some m) (declared_there is_public_instance_method named java_lang_object found object) q))
        (λ above.
        let f = found_first (λ y. is_interface files y ≡ true) any_method named (all_superinterfaces files named.class) found (all_interfaces files ok named.class) above in
        not_private named found m f.0 callable f.1 f.2 q)
        (or_some (method_in_class files is_public_instance_method named java_lang_object) _ found other))
        (or_some (method_in_class files any_method named named.class) _ found e)

    -- ---- handlers

    not_array : (pool : List Entry) (e : ExceptionEntry) → option_map_or (is_no_throwable files) (catch_class pool e) false ≡ false
        → (class : Name) → class_name_at pool e.catch_type ≡ Some class → is_array_class class ≡ false
    not_array pool e h class is = by_zero (e.catch_type == 0) refl
      where
        by_zero : (b : Bool) → (e.catch_type == 0) ≡ b → is_array_class class ≡ false
        by_zero true z =
            let zero_is : e.catch_type ≡ 0 = eqb-true e.catch_type 0 z in
            let none : class_name_at pool 0 ≡ Some class = subst (λ k. class_name_at pool k ≡ Some class) zero_is is in
            absurd cc
        by_zero false z =
            (or_parts (is_array_class class) _
            (sym (map_or_at (is_no_throwable files) (catch_class pool e) false class (ap (λ b. if b then None else class_name_at pool e.catch_type) z ∙ is)) ∙ h)).0

    pub catches : (method : Member) (body : Body) → body_of files method ≡ Some body
        → AllByRecursion (λ (e : ExceptionEntry). (class : Name) → class_name_at body.pool e.catch_type ≡ Some class
        → is_array_class class ≡ false) body.code.exceptions
    catches method body e =
        let c = coded_of files method body e in
        subst (λ (b : Body). AllByRecursion (λ (e : ExceptionEntry). (class : Name) → class_name_at b.pool e.catch_type ≡ Some class → is_array_class class ≡ false) b.code.exceptions) (sym c.is_body)
        (every_weaken _ _ c.code.exceptions (λ x h. not_array c.home.file.pool x h)
        (none_any (λ x. option_map_or (is_no_throwable files) (catch_class c.home.file.pool x) false) c.code.exceptions
        (no_code files method body (λ m code. list_any (λ x. option_map_or (is_no_throwable files) (catch_class c.home.file.pool x) false) code.exceptions) c (ordered files ok method.class c.home.file c.home.is_class).catches)))
