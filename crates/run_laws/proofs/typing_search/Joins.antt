-- The join is the least upper bound.
use Rattle.std.proofs.Common.{◌≡◌, ℕ, zero, suc, List, [], ◌∷◌, length, Bool, true, false, eqb, ◌&&◌, Option, Some, None, refl, sym, ap, ◌∙◌, subst, inl, inr, ◌⊎◌, ⊎_elim}
use Rattle.std.specs.Prelude.{unwrap_or}
use Rattle.std.specs.Option.{option_map, option_map_or, option_and_then}
use Rattle.std.proofs.lemmas.Bool.{false≢true, or_cases, or_right, and_parts, and_from, cond_both, eqb-true, eq-eqb}
use Rattle.model.specs.Names.{Name, name_eq, java_lang_object}
use Rattle.model.specs.Classes.{Program, classes_of, superclass_of, is_within, is_subclass}
use Rattle.model.specs.ReferenceTypes.{Primitive, primitive_number, ReferenceType, ClassType, PrimitiveArray, ReferenceArray, is_assignable}
use Rattle.model.specs.Types.{VerificationType, Unusable, IntType, NullType, OfType, Uninitialised, UninitialisedThis}
use Rattle.model.specs.InitialisedTypes.{is_uninitialised, is_uninitialised_this}
use Rattle.model.specs.TypeOrder.{FrameType, is_stack_below, is_local_below, pairwise, is_mark_below, is_frame_below}
use Rattle.model.specs.TypeJoin.{IsJoin, common_within, class_join, object_above, reference_join, stack_join, local_join, in_front, join_pairwise, frame_of_slots, frame_join}
use Rattle.run_laws.specs.laws.Steps.{ends, Rooted}
use Rattle.run_laws.proofs.laws.Classes.{names_same, name_self, subclass_self, subclass_trans, within_subclass}
use Rattle.run_laws.proofs.typing_search.Orders.{new_same, this_same, stack_self, stack_local}

-- ---- joins by any order

module _ {A : Type 0} (R : A → A → Bool) where
  pub turned : (s t : A) (o : Option A) → IsJoin R s t o → IsJoin R t s o
  turned s t None j = λ v p q. j v q p
  turned s t (Some u) j = (j.1, j.0, λ v p q. j.2 v q p)

  upper : ((t : A) → R t t ≡ true) → (s t : A) → R s t ≡ true → IsJoin R s t (Some t)
  upper r s t p = (p, r t, λ v a b. b)

  lower : ((t : A) → R t t ≡ true) → (s t : A) → R t s ≡ true → IsJoin R s t (Some s)
  lower r s t p = (r s, p, λ v a b. a)

  -- nothing but itself is above the first, and the second is not below it
  alone : (s t : A) → ((v : A) → R s v ≡ true → v ≡ s) → (R t s ≡ true → ⊥) → IsJoin R s t None
  alone s t up never = λ v p q. never (subst (λ x. R t x ≡ true) (up v p) q)

  -- ---- place by place

  both_front : (s t : A) (xs ys : List A) (o : Option A) (os : Option (List A)) → IsJoin R s t o → IsJoin (pairwise R) xs ys os
      → IsJoin (pairwise R) (s ∷ xs) (t ∷ ys) (in_front o os)
  both_front s t xs ys None os j z = never
    where
      never : (vs : List A) → pairwise R (s ∷ xs) vs ≡ true → pairwise R (t ∷ ys) vs ≡ true → ⊥
      never [] a b = false≢true a
      never (v ∷ vs) a b = j v (and_parts _ _ a).0 (and_parts _ _ b).0
  both_front s t xs ys (Some u) None j z = never
    where
      never : (vs : List A) → pairwise R (s ∷ xs) vs ≡ true → pairwise R (t ∷ ys) vs ≡ true → ⊥
      never [] a b = false≢true a
      never (v ∷ vs) a b = z vs (and_parts _ _ a).1 (and_parts _ _ b).1
  both_front s t xs ys (Some u) (Some us) j z = (and_from _ _ j.0 z.0, and_from _ _ j.1 z.1, least)
    where
      least : (vs : List A) → pairwise R (s ∷ xs) vs ≡ true → pairwise R (t ∷ ys) vs ≡ true → pairwise R (u ∷ us) vs ≡ true
      least [] a b = absurd (false≢true a)
      least (v ∷ vs) a b =
          let p = and_parts _ _ a in
          let q = and_parts _ _ b in
          and_from _ _ (j.2 v p.0 q.0) (z.2 vs p.1 q.1)

  pub pairwise_is : (f : A → A → Option A) → ((s t : A) → IsJoin R s t (f s t)) → (xs ys : List A)
      → IsJoin (pairwise R) xs ys (join_pairwise f xs ys)
  pairwise_is f w [] [] = (refl, refl, λ vs a b. a)
  pairwise_is f w [] (y ∷ ys) = uneven
    where
      uneven : (vs : List A) → pairwise R [] vs ≡ true → pairwise R (y ∷ ys) vs ≡ true → ⊥
      uneven [] a b = false≢true b
      uneven (v ∷ vs) a b = false≢true a
  pairwise_is f w (x ∷ xs) [] = uneven
    where
      uneven : (vs : List A) → pairwise R (x ∷ xs) vs ≡ true → pairwise R [] vs ≡ true → ⊥
      uneven [] a b = false≢true a
      uneven (v ∷ vs) a b = false≢true b
  pairwise_is f w (x ∷ xs) (y ∷ ys) = both_front x y xs ys (f x y) (join_pairwise f xs ys) (w x y) (pairwise_is f w xs ys)

-- ---- classes

module _ (files : Program) (rooted : Rooted files) where
  pub sub_self : (c : Name) → is_subclass files c c ≡ true
  sub_self c = subclass_self files (length (classes_of files)) c

  pub super_above : (c s : Name) → superclass_of files c ≡ Some s → is_subclass files c s ≡ true
  super_above c s e =
      within_subclass files rooted 1 c s (or_right (name_eq c s) _ (subst (λ o. option_map_or (λ x. is_within files 0 x s) o false ≡ true) (sym e) (name_self s)))

  -- what is above a class is it, or above its superclass
  pub up_one : (n : ℕ) (c v : Name) (o : Option Name) → superclass_of files c ≡ o → is_within files n c v ≡ true
      → (c ≡ v) ⊎ (option_map_or (λ s. is_subclass files s v) o false ≡ true)
  up_one zero c v o e w = inl (names_same c v w)
  up_one (suc n) c v o e w =
      ⊎_elim (λ q. inl (names_same c v q)) (λ q. inr (more o (subst (λ x. option_map_or (λ s. is_within files n s v) x false
      ≡ true) e q))) (or_cases (name_eq c v) _ w)
    where
      more : (o : Option Name) → option_map_or (λ s. is_within files n s v) o false ≡ true
          → option_map_or (λ s. is_subclass files s v) o false ≡ true
      more None q = q
      more (Some s) q = within_subclass files rooted n s v q

  abbrev Common : Name → Name → Option Name → Type 0
  Common c d o = IsJoin (is_subclass files) c d o

  -- a class that the other is not below, and its superclass
  from_super : (c d s : Name) (o : Option Name) → superclass_of files c ≡ Some s → is_subclass files d c ≡ false → Common s d o
      → Common c d o
  from_super c d s None e never j =
      λ v p q. ⊎_elim (λ x. absurd (false≢true (sym never ∙ subst (λ y. is_subclass files d y ≡ true) (sym x) q))) (λ x. j v x q) (up_one (length (classes_of files)) c v (Some s) e p)
  from_super c d s (Some u) e never j = (
    subclass_trans files rooted c s u (super_above c s e) j.0,
    j.1,
    λ v p q. ⊎_elim (λ x. absurd (false≢true (sym never ∙ subst (λ y. is_subclass files d y ≡ true) (sym x) q))) (λ x. j.2 v x q) (up_one (length (classes_of files)) c v (Some s) e p),
  )

  common_is : (n : ℕ) (c d : Name) → ends files n c ≡ true → Common c d (common_within files n c d)
  common_is zero c d w = absurd (false≢true w)
  common_is (suc n) c d w =
      cond_both (is_subclass files d c) _ _ (Common c d) (λ e. (sub_self c, e, λ v p q. p)) (λ e. go (λ s x. common_is n s d x) (superclass_of files c) refl w e)
    where
      go : ((s : Name) → ends files n s ≡ true → Common s d (common_within files n s d)) → (o : Option Name) → superclass_of files c ≡ o
          → option_map_or (λ s. ends files n s) o true ≡ true → is_subclass files d c ≡ false
          → Common c d (option_and_then (λ s. common_within files n s d) o)
      go rec None e x never =
          λ v p q. ⊎_elim (λ y. false≢true (sym never ∙ subst (λ z. is_subclass files d z ≡ true) (sym y) q)) (λ y. false≢true y) (up_one (length (classes_of files)) c v None e p)
      go rec (Some s) e x never = from_super c d s (common_within files n s d) e never (rec s x)

  pub class_is : (c d : Name) → Common c d (class_join files c d)
  class_is c d = common_is (suc (length (classes_of files))) c d (rooted c)

  -- ---- reference types

  abbrev Reference : ReferenceType → ReferenceType → Option ReferenceType → Type 0
  Reference s t o = IsJoin (is_assignable files) s t o

  abbrev object : ReferenceType
  object = ClassType java_lang_object

  classes_is : (c d : Name) (o : Option Name) → Common c d o → Reference (ClassType c) (ClassType d) (option_map (λ name. ClassType name) o)
  classes_is c d None j = never
    where
      never : (v : ReferenceType) → is_assignable files (ClassType c) v ≡ true → is_assignable files (ClassType d) v ≡ true → ⊥
      never (ClassType e) p q = j e p q
      never (PrimitiveArray a) p q = false≢true p
      never (ReferenceArray a) p q = false≢true p
  classes_is c d (Some u) j = (j.0, j.1, least)
    where
      least : (v : ReferenceType) → is_assignable files (ClassType c) v ≡ true → is_assignable files (ClassType d) v ≡ true
          → is_assignable files (ClassType u) v ≡ true
      least (ClassType e) p q = j.2 e p q
      least (PrimitiveArray a) p q = p
      least (ReferenceArray a) p q = p

  -- a class, and a type that only Object is above of all classes
  with_array : (c : Name) (t : ReferenceType) → is_assignable files t object ≡ true
      → ((v : ReferenceType) → is_assignable files (ClassType c) v ≡ true → is_assignable files t v ≡ true → v ≡ object)
      → Reference (ClassType c) t (object_above files c)
  with_array c t below only =
      cond_both (is_subclass files c java_lang_object) _ _ (Reference (ClassType c) t) (λ e. (e, below, λ v p q. subst (λ x. is_assignable files object x ≡ true) (sym (only v p q)) (sub_self java_lang_object))) (λ e v p q. false≢true (sym e ∙ subst (λ x. is_assignable files (ClassType c) x ≡ true) (only v p q) p))

  only_primitives : (c : Name) (a : Primitive) (v : ReferenceType) → is_assignable files (ClassType c) v ≡ true
      → is_assignable files (PrimitiveArray a) v ≡ true → v ≡ object
  only_primitives c a (ClassType d) p q = ap (λ x. ClassType x) (names_same d java_lang_object q)
  only_primitives c a (PrimitiveArray b) p q = absurd (false≢true p)
  only_primitives c a (ReferenceArray b) p q = absurd (false≢true p)

  only_references : (c : Name) (a v : ReferenceType) → is_assignable files (ClassType c) v ≡ true
      → is_assignable files (ReferenceArray a) v ≡ true → v ≡ object
  only_references c a (ClassType d) p q = ap (λ x. ClassType x) (names_same d java_lang_object q)
  only_references c a (PrimitiveArray b) p q = absurd (false≢true p)
  only_references c a (ReferenceArray b) p q = absurd (false≢true p)

  -- Object is below Object alone
  object_below : (d : Name) → name_eq d java_lang_object ≡ true → is_assignable files object (ClassType d) ≡ true
  object_below d e = subst (λ x. is_subclass files java_lang_object x ≡ true) (sym (names_same d java_lang_object e)) (sub_self java_lang_object)

  primitives_is : (a b : Primitive) → Reference (PrimitiveArray a) (PrimitiveArray b)
      (reference_join files (PrimitiveArray a) (PrimitiveArray b))
  primitives_is a b =
      cond_both (eqb (primitive_number a) (primitive_number b)) (PrimitiveArray a) object (λ x. Reference (PrimitiveArray a) (PrimitiveArray b) (Some x)) (λ e. (eq-eqb (primitive_number a) (primitive_number a) refl, eq-eqb (primitive_number b) (primitive_number a) (sym (eqb-true (primitive_number a) (primitive_number b) e)), λ v p q. p)) (λ e. (name_self java_lang_object, name_self java_lang_object, least e))
    where
      least : eqb (primitive_number a) (primitive_number b) ≡ false → (v : ReferenceType) → is_assignable files (PrimitiveArray a) v ≡ true
          → is_assignable files (PrimitiveArray b) v ≡ true → is_assignable files object v ≡ true
      least e (ClassType d) p q = object_below d p
      least e (PrimitiveArray x) p q =
          absurd (false≢true (sym e ∙ eq-eqb (primitive_number a) (primitive_number b) (eqb-true (primitive_number a) (primitive_number x) p ∙ sym (eqb-true (primitive_number b) (primitive_number x) q))))
      least e (ReferenceArray x) p q = absurd (false≢true p)

  mixed_is : (a : Primitive) (b : ReferenceType) → Reference (PrimitiveArray a) (ReferenceArray b) (Some object)
  mixed_is a b = (name_self java_lang_object, name_self java_lang_object, least)
    where
      least : (v : ReferenceType) → is_assignable files (PrimitiveArray a) v ≡ true → is_assignable files (ReferenceArray b) v ≡ true
          → is_assignable files object v ≡ true
      least (ClassType d) p q = object_below d p
      least (PrimitiveArray x) p q = absurd (false≢true q)
      least (ReferenceArray x) p q = absurd (false≢true p)

  arrays_is : (a b : ReferenceType) (o : Option ReferenceType) → Reference a b o
      → Reference (ReferenceArray a) (ReferenceArray b) (Some (option_map_or (λ t. ReferenceArray t) o object))
  arrays_is a b None j = (name_self java_lang_object, name_self java_lang_object, least)
    where
      least : (v : ReferenceType) → is_assignable files (ReferenceArray a) v ≡ true → is_assignable files (ReferenceArray b) v ≡ true
          → is_assignable files object v ≡ true
      least (ClassType d) p q = object_below d p
      least (PrimitiveArray x) p q = absurd (false≢true p)
      least (ReferenceArray x) p q = absurd (j x p q)
  arrays_is a b (Some u) j = (j.0, j.1, least)
    where
      least : (v : ReferenceType) → is_assignable files (ReferenceArray a) v ≡ true → is_assignable files (ReferenceArray b) v ≡ true
          → is_assignable files (ReferenceArray u) v ≡ true
      least (ClassType d) p q = p
      least (PrimitiveArray x) p q = p
      least (ReferenceArray x) p q = j.2 x p q

  pub reference_is : (s t : ReferenceType) → Reference s t (reference_join files s t)
  reference_is (ClassType c) (ClassType d) = classes_is c d (class_join files c d) (class_is c d)
  reference_is (ClassType c) (PrimitiveArray b) = with_array c (PrimitiveArray b) (name_self java_lang_object) (only_primitives c b)
  reference_is (ClassType c) (ReferenceArray b) = with_array c (ReferenceArray b) (name_self java_lang_object) (only_references c b)
  reference_is (PrimitiveArray a) (ClassType d) =
      turned (is_assignable files) (ClassType d) (PrimitiveArray a) (object_above files d) (with_array d (PrimitiveArray a) (name_self java_lang_object) (only_primitives d a))
  reference_is (PrimitiveArray a) (PrimitiveArray b) = primitives_is a b
  reference_is (PrimitiveArray a) (ReferenceArray b) = mixed_is a b
  reference_is (ReferenceArray a) (ClassType d) =
      turned (is_assignable files) (ClassType d) (ReferenceArray a) (object_above files d) (with_array d (ReferenceArray a) (name_self java_lang_object) (only_references d a))
  reference_is (ReferenceArray a) (PrimitiveArray b) = turned (is_assignable files) (PrimitiveArray b) (ReferenceArray a) (Some object) (mixed_is b a)
  reference_is (ReferenceArray a) (ReferenceArray b) = arrays_is a b (reference_join files a b) (reference_is a b)

  -- ---- types on the operand stack

  abbrev Stack : VerificationType → VerificationType → Option VerificationType → Type 0
  Stack s t o = IsJoin (is_stack_below files) s t o

  unusable_above : (v : VerificationType) → is_stack_below files Unusable v ≡ true → v ≡ Unusable
  unusable_above Unusable p = refl
  unusable_above IntType p = absurd (false≢true p)
  unusable_above NullType p = absurd (false≢true p)
  unusable_above (OfType r) p = absurd (false≢true p)
  unusable_above (Uninitialised at c) p = absurd (false≢true p)
  unusable_above (UninitialisedThis c) p = absurd (false≢true p)

  pub int_above : (v : VerificationType) → is_stack_below files IntType v ≡ true → v ≡ IntType
  int_above Unusable p = absurd (false≢true p)
  int_above IntType p = refl
  int_above NullType p = absurd (false≢true p)
  int_above (OfType r) p = absurd (false≢true p)
  int_above (Uninitialised at c) p = absurd (false≢true p)
  int_above (UninitialisedThis c) p = absurd (false≢true p)

  new_above : (at : ℕ) (c : Name) (v : VerificationType) → is_stack_below files (Uninitialised at c) v ≡ true → v ≡ Uninitialised at c
  new_above at c Unusable p = absurd (false≢true p)
  new_above at c IntType p = absurd (false≢true p)
  new_above at c NullType p = absurd (false≢true p)
  new_above at c (OfType r) p = absurd (false≢true p)
  new_above at c (Uninitialised b d) p = sym (new_same b d (Uninitialised at c) p)
  new_above at c (UninitialisedThis d) p = absurd (false≢true p)

  this_above : (c : Name) (v : VerificationType) → is_stack_below files (UninitialisedThis c) v ≡ true → v ≡ UninitialisedThis c
  this_above c Unusable p = absurd (false≢true p)
  this_above c IntType p = absurd (false≢true p)
  this_above c NullType p = absurd (false≢true p)
  this_above c (OfType r) p = absurd (false≢true p)
  this_above c (Uninitialised b d) p = absurd (false≢true p)
  this_above c (UninitialisedThis d) p = sym (this_same d (UninitialisedThis c) p)

  -- the second has nothing but itself above it
  alone_right : (s t : VerificationType) → ((v : VerificationType) → is_stack_below files t v ≡ true → v ≡ t)
      → is_stack_below files s t ≡ false → Stack s t None
  alone_right s t up never = turned (is_stack_below files) t s None (alone (is_stack_below files) t s up (λ e. false≢true (sym never ∙ e)))

  alone_left : (s t : VerificationType) → ((v : VerificationType) → is_stack_below files s v ≡ true → v ≡ s)
      → is_stack_below files t s ≡ false → Stack s t None
  alone_left s t up never = alone (is_stack_below files) s t up (λ e. false≢true (sym never ∙ e))

  same_is : (s t : VerificationType) → t ≡ s → Stack s t (Some t)
  same_is s t e = upper (is_stack_below files) (stack_self files) s t (subst (λ x. is_stack_below files s x ≡ true) (sym e) (stack_self files s))

  unusable_is : (t : VerificationType) → Stack Unusable t (stack_join files Unusable t)
  unusable_is Unusable = same_is Unusable Unusable refl
  unusable_is IntType = alone_left Unusable IntType unusable_above refl
  unusable_is NullType = alone_left Unusable NullType unusable_above refl
  unusable_is (OfType r) = alone_left Unusable (OfType r) unusable_above refl
  unusable_is (Uninitialised at c) = alone_left Unusable (Uninitialised at c) unusable_above refl
  unusable_is (UninitialisedThis c) = alone_left Unusable (UninitialisedThis c) unusable_above refl

  int_is : (t : VerificationType) → Stack IntType t (stack_join files IntType t)
  int_is Unusable = alone_left IntType Unusable int_above refl
  int_is IntType = same_is IntType IntType refl
  int_is NullType = alone_left IntType NullType int_above refl
  int_is (OfType r) = alone_left IntType (OfType r) int_above refl
  int_is (Uninitialised at c) = alone_left IntType (Uninitialised at c) int_above refl
  int_is (UninitialisedThis c) = alone_left IntType (UninitialisedThis c) int_above refl

  null_is : (t : VerificationType) → Stack NullType t (stack_join files NullType t)
  null_is Unusable = alone_right NullType Unusable unusable_above refl
  null_is IntType = alone_right NullType IntType int_above refl
  null_is NullType = same_is NullType NullType refl
  null_is (OfType r) = upper (is_stack_below files) (stack_self files) NullType (OfType r) refl
  null_is (Uninitialised at c) = alone_right NullType (Uninitialised at c) (new_above at c) refl
  null_is (UninitialisedThis c) = alone_right NullType (UninitialisedThis c) (this_above c) refl

  references_is : (s t : ReferenceType) (o : Option ReferenceType) → Reference s t o
      → Stack (OfType s) (OfType t) (option_map (λ u. OfType u) o)
  references_is s t None j = never
    where
      never : (v : VerificationType) → is_stack_below files (OfType s) v ≡ true → is_stack_below files (OfType t) v ≡ true → ⊥
      never Unusable p q = false≢true p
      never IntType p q = false≢true p
      never NullType p q = false≢true p
      never (OfType r) p q = j r p q
      never (Uninitialised at c) p q = false≢true p
      never (UninitialisedThis c) p q = false≢true p
  references_is s t (Some u) j = (j.0, j.1, least)
    where
      least : (v : VerificationType) → is_stack_below files (OfType s) v ≡ true → is_stack_below files (OfType t) v ≡ true
          → is_stack_below files (OfType u) v ≡ true
      least Unusable p q = p
      least IntType p q = p
      least NullType p q = p
      least (OfType r) p q = j.2 r p q
      least (Uninitialised at c) p q = p
      least (UninitialisedThis c) p q = p

  of_is : (s : ReferenceType) (t : VerificationType) → Stack (OfType s) t (stack_join files (OfType s) t)
  of_is s Unusable = alone_right (OfType s) Unusable unusable_above refl
  of_is s IntType = alone_right (OfType s) IntType int_above refl
  of_is s NullType = lower (is_stack_below files) (stack_self files) (OfType s) NullType refl
  of_is s (OfType t) = references_is s t (reference_join files s t) (reference_is s t)
  of_is s (Uninitialised at c) = alone_right (OfType s) (Uninitialised at c) (new_above at c) refl
  of_is s (UninitialisedThis c) = alone_right (OfType s) (UninitialisedThis c) (this_above c) refl

  pub stack_is : (s t : VerificationType) → Stack s t (stack_join files s t)
  stack_is Unusable t = unusable_is t
  stack_is IntType t = int_is t
  stack_is NullType t = null_is t
  stack_is (OfType s) t = of_is s t
  stack_is (Uninitialised at c) t =
      cond_both (is_uninitialised at c t) (Some t) None (Stack (Uninitialised at c) t) (λ e. same_is (Uninitialised at c) t (new_same at c t e)) (λ e. alone_left (Uninitialised at c) t (new_above at c) e)
  stack_is (UninitialisedThis c) t =
      cond_both (is_uninitialised_this c t) (Some t) None (Stack (UninitialisedThis c) t) (λ e. same_is (UninitialisedThis c) t (this_same c t e)) (λ e. alone_left (UninitialisedThis c) t (this_above c) e)

  -- ---- types in local variables

  module _ (s t : VerificationType) where
    left_at : (o : Option VerificationType) → Stack s t o → is_local_below files s (unwrap_or o Unusable) ≡ true
    left_at None j = refl
    left_at (Some u) j = stack_local files s u j.0

    right_at : (o : Option VerificationType) → Stack s t o → is_local_below files t (unwrap_or o Unusable) ≡ true
    right_at None j = refl
    right_at (Some u) j = stack_local files t u j.1

    least_at : (o : Option VerificationType) → Stack s t o → (v : VerificationType) → is_stack_below files s v ≡ true
        → is_stack_below files t v ≡ true → is_local_below files (unwrap_or o Unusable) v ≡ true
    least_at None j v p q = absurd (j v p q)
    least_at (Some u) j v p q = stack_local files u v (j.2 v p q)

    local_least : (v : VerificationType) → is_local_below files s v ≡ true → is_local_below files t v ≡ true
        → is_local_below files (local_join files s t) v ≡ true
    local_least Unusable p q = refl
    local_least IntType p q = least_at (stack_join files s t) (stack_is s t) IntType p q
    local_least NullType p q = least_at (stack_join files s t) (stack_is s t) NullType p q
    local_least (OfType r) p q = least_at (stack_join files s t) (stack_is s t) (OfType r) p q
    local_least (Uninitialised at c) p q = least_at (stack_join files s t) (stack_is s t) (Uninitialised at c) p q
    local_least (UninitialisedThis c) p q = least_at (stack_join files s t) (stack_is s t) (UninitialisedThis c) p q

    pub local_is : IsJoin (is_local_below files) s t (Some (local_join files s t))
    local_is = (left_at (stack_join files s t) (stack_is s t), right_at (stack_join files s t) (stack_is s t), local_least)

  -- ---- frame types

  marks_left : (a b : Bool) → is_mark_below a (a && b) ≡ true
  marks_left true b = refl
  marks_left false b = refl

  marks_right : (a b : Bool) → is_mark_below b (a && b) ≡ true
  marks_right true true = refl
  marks_right true false = refl
  marks_right false true = refl
  marks_right false false = refl

  marks_least : (a b v : Bool) → is_mark_below a v ≡ true → is_mark_below b v ≡ true → is_mark_below (a && b) v ≡ true
  marks_least true b v p q = q
  marks_least false b v p q = p

  module _ (a b : FrameType) where
    of_parts : (ls ss : Option (List VerificationType)) → IsJoin (pairwise (is_local_below files)) a.slots.locals b.slots.locals ls
        → IsJoin (pairwise (is_stack_below files)) a.slots.stack b.slots.stack ss
        → IsJoin (is_frame_below files) a b (frame_of_slots (a.constructed && b.constructed) ls ss)
    of_parts None ss x y = λ v p q. x v.slots.locals (and_parts _ _ p).0 (and_parts _ _ q).0
    of_parts (Some ls) None x y =
        λ v p q. y v.slots.stack (and_parts _ _ (and_parts _ _ p).1).0 (and_parts _ _ (and_parts _ _ q).1).0
    of_parts (Some ls) (Some ss) x y = (
      and_from _ _ x.0 (and_from _ _ y.0 (marks_left a.constructed b.constructed)),
      and_from _ _ x.1 (and_from _ _ y.1 (marks_right a.constructed b.constructed)),
      λ v p q.
          let f = and_parts _ _ p in
          let g = and_parts _ _ q in
          let h = and_parts _ _ f.1 in
          let i = and_parts _ _ g.1 in
          and_from _ _ (x.2 v.slots.locals f.0 g.0) (and_from _ _ (y.2 v.slots.stack h.0 i.0) (marks_least a.constructed b.constructed v.constructed h.1 i.1)),
    )

    pub frame_is : IsJoin (is_frame_below files) a b (frame_join files a b)
    frame_is =
        of_parts _ _ (pairwise_is (is_local_below files) (λ s t. Some (local_join files s t)) local_is a.slots.locals b.slots.locals) (pairwise_is (is_stack_below files) (stack_join files) stack_is a.slots.stack b.slots.stack)
