-- What is an instance of a type is of the type that the verifier makes of it.
use Rattle.std.proofs.Common.{◌≡◌, ℕ, zero, suc, List, true, false, Option, Some, None, sym, ◌∙◌, subst, ⊎_elim}
use Rattle.std.specs.Prelude.{slice_get, if◌then◌else◌}
use Rattle.std.specs.Option.{option_map_or}
use Rattle.std.proofs.lemmas.Bool.{false≢true, or_cases, or_left, cond_both}
use Rattle.model.specs.declared.value.Value.{Value}
use Rattle.model.specs.declared.value.Value.TheVariants as value
use Rattle.model.specs.Names.{Name, name_eq, java_lang_object}
use Rattle.model.specs.Classes.{Program, is_within, is_subclass, is_interface}
use Rattle.model.specs.ReferenceTypes.{ReferenceType, ClassType, PrimitiveArray, ReferenceArray, is_subtype, is_assignable}
use Rattle.model.specs.Types.{is_object_of, is_value_of, is_object_below, is_value_below}
use Rattle.model.specs.DescribedTypes.{made_type}
use Rattle.run_laws.proofs.laws.Classes.{names_same, name_self, subclass_self, within_subclass}
use Rattle.run_laws.proofs.laws.Order.{assignable_self}
use Rattle.run_laws.proofs.laws.Linked.{Linked}

module _ (files : Program) (linked : Linked files) where
  made_object : (d : Name) → name_eq d java_lang_object ≡ true
      → name_eq (if is_interface files d then java_lang_object else d) java_lang_object ≡ true
  made_object d e = cond_both (is_interface files d) _ _ (λ n. name_eq n java_lang_object ≡ true) (λ q. name_self java_lang_object) (λ q. e)

  -- what is an instance of a type is below it for the verifier
  pub subtype_below : (u t : ReferenceType) → is_subtype files u t ≡ true → is_assignable files u (made_type files t) ≡ true
  subtype_below (ClassType c) (ClassType d) e = linked.subtype_made c d e
  subtype_below (ClassType c) (PrimitiveArray b) e = e
  subtype_below (ClassType c) (ReferenceArray b) e = e
  subtype_below (PrimitiveArray a) (ClassType d) e = made_object d e
  subtype_below (PrimitiveArray a) (PrimitiveArray b) e = e
  subtype_below (PrimitiveArray a) (ReferenceArray b) e = e
  subtype_below (ReferenceArray a) (ClassType d) e = made_object d e
  subtype_below (ReferenceArray a) (PrimitiveArray b) e = e
  subtype_below (ReferenceArray a) (ReferenceArray b) e = subtype_below a b e

  -- each type is below the one that the verifier makes of it
  pub made_above : (t : ReferenceType) → is_assignable files t (made_type files t) ≡ true
  made_above (ClassType c) = linked.subtype_made c c (or_left (is_subclass files c c) _ (subclass_self files _ c))
  made_above (PrimitiveArray a) = assignable_self files (PrimitiveArray a)
  made_above (ReferenceArray a) = made_above a

  object_instance : (t : ReferenceType) (o : Option ReferenceType) → is_object_of files t o ≡ true
      → is_object_below files (made_type files t) o ≡ true
  object_instance t None e = e
  object_instance t (Some u) e = subtype_below u t e

  pub instance_below : (os : List ReferenceType) (t : ReferenceType) (v : Value) → is_value_of files os t v ≡ true
      → is_value_below files os (made_type files t) v ≡ true
  instance_below os t value.Unset e = e
  instance_below os t (value.Int bits) e = e
  instance_below os t value.Null e = e
  instance_below os t (value.Reference r) e = object_instance t (slice_get os r) e

  -- above an interface there is Object alone
  above_interface : (n : ℕ) (c d : Name) → is_interface files c ≡ true → (name_eq c d ≡ true → is_subclass files java_lang_object d ≡ true)
      → is_within files n c d ≡ true → is_subclass files java_lang_object d ≡ true
  above_interface zero c d i k w = k w
  above_interface (suc n) c d i k w =
      ⊎_elim k (λ q. within_subclass files linked.rooted n java_lang_object
      d (subst (λ o. option_map_or (λ s. is_within files n s d) o false
      ≡ true) (linked.interface_super c i) q)) (or_cases (name_eq c d) _ w)

  made_classes : (c d : Name) → is_subclass files c d ≡ true
      → is_subclass files (if is_interface files c then java_lang_object else c) (if is_interface files d then java_lang_object else d)
      ≡ true
  made_classes c d e =
      let up : is_subclass files c (if is_interface files d then java_lang_object else d) ≡ true = linked.subtype_made c d (or_left (is_subclass files c d) _ e) in
      cond_both (is_interface files c) _ _ (λ n. is_subclass files n (if is_interface files d then java_lang_object else d) ≡ true)
      (λ i.
      cond_both (is_interface files d) _ _ (λ n. is_subclass files c n ≡ true → is_subclass files java_lang_object n ≡ true)
      (λ q w. subclass_self files _ java_lang_object)
      (λ q w. above_interface _ c d i (λ same. absurd (false≢true (sym q ∙ subst (λ n. is_interface files n ≡ true) (names_same c d same) i))) w)
      up)
      (λ i. up)

  -- the order of types is kept by what the verifier makes of them
  pub made_monotone : (u t : ReferenceType) → is_assignable files u t ≡ true
      → is_assignable files (made_type files u) (made_type files t) ≡ true
  made_monotone (ClassType c) (ClassType d) e = made_classes c d e
  made_monotone (ClassType c) (PrimitiveArray b) e = e
  made_monotone (ClassType c) (ReferenceArray b) e = e
  made_monotone (PrimitiveArray a) (ClassType d) e = made_object d e
  made_monotone (PrimitiveArray a) (PrimitiveArray b) e = e
  made_monotone (PrimitiveArray a) (ReferenceArray b) e = e
  made_monotone (ReferenceArray a) (ClassType d) e = made_object d e
  made_monotone (ReferenceArray a) (PrimitiveArray b) e = e
  made_monotone (ReferenceArray a) (ReferenceArray b) e = made_monotone a b e
