-- The join of a type with one that is below it is the type.
use Rattle.std.proofs.Common.{◌≡◌, List, [], ◌∷◌, length, true, eqb, cond, Some, None, refl, sym, ap, ◌∙◌, subst}
use Rattle.std.specs.Prelude.{unwrap_or}
use Rattle.std.specs.Option.{option_map, option_map_or, option_and_then}
use Rattle.std.proofs.lemmas.Bool.{false≢true, eqb-true, eq-eqb}
use Rattle.model.specs.Names.{Name, name_eq, java_lang_object}
use Rattle.model.specs.Classes.{Program, classes_of, superclass_of, is_subclass}
use Rattle.model.specs.ReferenceTypes.{Primitive, primitive_number, ReferenceType, ClassType, PrimitiveArray, ReferenceArray, is_assignable}
use Rattle.model.specs.Types.{VerificationType, Unusable, IntType, NullType, OfType, Uninitialised, UninitialisedThis, is_of}
use Rattle.model.specs.TypeOrder.{is_stack_below, is_local_below}
use Rattle.model.specs.TypeJoin.{common_within, class_join, object_above, reference_join, stack_join, local_join, in_front, join_pairwise}
use Rattle.run_laws.proofs.laws.Classes.{names_same, subclass_self}
use Rattle.run_laws.proofs.laws.Lists.{Pairwise}
use Rattle.run_laws.proofs.typing_search.Orders.{unusable_same, int_same, null_same, new_same, this_same}

module _ (files : Program) where
  -- ---- references

  kept_class : (c d : Name) → is_subclass files d c ≡ true → class_join files c d ≡ Some c
  kept_class c d e =
      ap (λ b. cond b (Some c) (option_and_then (λ s. common_within files (length (classes_of files)) s d) (superclass_of files c))) e

  kept_object : (c : Name) → name_eq c java_lang_object ≡ true → object_above files c ≡ Some (ClassType c)
  kept_object c e =
      subst (λ n. object_above files n ≡ Some (ClassType n)) (sym (names_same c java_lang_object e))
      (ap (λ b. cond b (Some (ClassType java_lang_object)) None) (subclass_self files (length (classes_of files)) java_lang_object))

  kept_primitive : (a b : Primitive) → eqb (primitive_number b) (primitive_number a) ≡ true
      → reference_join files (PrimitiveArray a) (PrimitiveArray b) ≡ Some (PrimitiveArray a)
  kept_primitive a b e =
      let same : eqb (primitive_number a) (primitive_number b) ≡ true = eq-eqb (primitive_number a) (primitive_number b) (sym (eqb-true (primitive_number b) (primitive_number a) e)) in
      ap (λ c. Some (cond c (PrimitiveArray a) (ClassType java_lang_object))) same

  kept_reference : (s t : ReferenceType) → is_assignable files t s ≡ true → reference_join files s t ≡ Some s
  kept_reference (ClassType c) (ClassType d) e = ap (option_map (λ name. ClassType name)) (kept_class c d e)
  kept_reference (ClassType c) (PrimitiveArray b) e = kept_object c e
  kept_reference (ClassType c) (ReferenceArray b) e = kept_object c e
  kept_reference (PrimitiveArray a) (ClassType d) e = absurd (false≢true e)
  kept_reference (PrimitiveArray a) (PrimitiveArray b) e = kept_primitive a b e
  kept_reference (PrimitiveArray a) (ReferenceArray b) e = absurd (false≢true e)
  kept_reference (ReferenceArray a) (ClassType d) e = absurd (false≢true e)
  kept_reference (ReferenceArray a) (PrimitiveArray b) e = absurd (false≢true e)
  kept_reference (ReferenceArray a) (ReferenceArray b) e =
      ap (λ o. Some (option_map_or (λ t. ReferenceArray t) o (ClassType java_lang_object))) (kept_reference a b e)

  -- ---- types

  kept_of : (r : ReferenceType) (t : VerificationType) → is_of files r t ≡ true → stack_join files (OfType r) t ≡ Some (OfType r)
  kept_of r Unusable e = absurd (false≢true e)
  kept_of r IntType e = absurd (false≢true e)
  kept_of r NullType e = refl
  kept_of r (OfType q) e = ap (option_map (λ t. OfType t)) (kept_reference r q e)
  kept_of r (Uninitialised at c) e = absurd (false≢true e)
  kept_of r (UninitialisedThis c) e = absurd (false≢true e)

  pub kept_stack : (s t : VerificationType) → is_stack_below files t s ≡ true → stack_join files s t ≡ Some s
  kept_stack Unusable t e = ap (stack_join files Unusable) (unusable_same t e)
  kept_stack IntType t e = ap (stack_join files IntType) (int_same t e)
  kept_stack NullType t e = ap (stack_join files NullType) (null_same t e)
  kept_stack (OfType r) t e = kept_of r t e
  kept_stack (Uninitialised at c) t e =
      ap (λ b. cond b (Some t) None) e ∙ ap (λ x. Some x) (new_same at c t e)
  kept_stack (UninitialisedThis c) t e =
      ap (λ b. cond b (Some t) None) e ∙ ap (λ x. Some x) (this_same c t e)

  kept_unusable : (t : VerificationType) → local_join files Unusable t ≡ Unusable
  kept_unusable Unusable = refl
  kept_unusable IntType = refl
  kept_unusable NullType = refl
  kept_unusable (OfType q) = refl
  kept_unusable (Uninitialised at c) = refl
  kept_unusable (UninitialisedThis c) = refl

  of_stack : (s t : VerificationType) → stack_join files s t ≡ Some s → local_join files s t ≡ s
  of_stack s t e = ap (λ o. unwrap_or o Unusable) e

  pub kept_local : (s t : VerificationType) → is_local_below files t s ≡ true → local_join files s t ≡ s
  kept_local Unusable t e = kept_unusable t
  kept_local IntType t e = of_stack IntType t (kept_stack IntType t e)
  kept_local NullType t e = of_stack NullType t (kept_stack NullType t e)
  kept_local (OfType r) t e = of_stack (OfType r) t (kept_stack (OfType r) t e)
  kept_local (Uninitialised at c) t e = of_stack (Uninitialised at c) t (kept_stack (Uninitialised at c) t e)
  kept_local (UninitialisedThis c) t e = of_stack (UninitialisedThis c) t (kept_stack (UninitialisedThis c) t e)

  -- ---- stacks

  pub kept_stacks : (ss ts : List VerificationType) → Pairwise (is_stack_below files) ts ss
      → join_pairwise (stack_join files) ss ts ≡ Some ss
  kept_stacks [] [] p = refl
  kept_stacks [] (t ∷ ts) p = absurd p
  kept_stacks (s ∷ ss) [] p = absurd p
  kept_stacks (s ∷ ss) (t ∷ ts) p =
      ap (λ o. in_front o (join_pairwise (stack_join files) ss ts)) (kept_stack s t p.0) ∙ ap (in_front (Some s)) (kept_stacks ss ts p.1)
