-- What is not initialised has nothing but itself above and below it; so what `new` and a constructor do goes along the order.
use Rattle.std.proofs.Common.{◌≡◌, ℕ, List, [], ◌∷◌, map, Bool, true, false, ◌||◌, refl, sym, ap, ◌∙◌, subst}
use Rattle.std.specs.List.{list_any}
use Rattle.std.proofs.lemmas.Bool.{false≢true}
use Rattle.model.specs.Classes.{Program}
use Rattle.model.specs.ReferenceTypes.{ReferenceType}
use Rattle.model.specs.Types.{VerificationType, Unusable, IntType, NullType, OfType, Uninitialised, UninitialisedThis}
use Rattle.model.specs.InitialisedTypes.{is_made_at, forgotten, initialised}
use Rattle.model.specs.Typing.{is_any_this}
use Rattle.model.specs.TypeOrder.{is_stack_below, is_local_below}
use Rattle.run_laws.proofs.laws.Lists.{Pairwise}
use Rattle.run_laws.proofs.typing_search.Orders.{unusable_same, int_same, null_same, new_same, this_same, stack_self, stack_local}

-- two lists of types, changed place by place
pub pair_maps : {A B : Type 0} (R : A → A → Bool) (S : B → B → Bool) (f g : A → B) → ((x y : A) → R x y ≡ true → S (f x) (g y) ≡ true)
    → (xs ys : List A) → Pairwise R xs ys → Pairwise S (map f xs) (map g ys)
pair_maps R S f g w [] [] h = tt
pair_maps R S f g w [] (y ∷ ys) h = absurd h
pair_maps R S f g w (x ∷ xs) [] h = absurd h
pair_maps R S f g w (x ∷ xs) (y ∷ ys) h = (w x y h.0, pair_maps R S f g w xs ys h.1)

module _ (files : Program) where
  -- ---- tests that only what is not initialised passes

  module _ (p : VerificationType → Bool) (null : p NullType ≡ false) (of : (r : ReferenceType) → p (OfType r) ≡ false) where
    test_of : (s : VerificationType) (r : ReferenceType) → is_stack_below files s (OfType r) ≡ true → p s ≡ p (OfType r)
    test_of Unusable r q = absurd (false≢true q)
    test_of IntType r q = absurd (false≢true q)
    test_of NullType r q = null ∙ sym (of r)
    test_of (OfType t) r q = of t ∙ sym (of r)
    test_of (Uninitialised at c) r q = absurd (false≢true q)
    test_of (UninitialisedThis c) r q = absurd (false≢true q)

    test_same : (s t : VerificationType) → is_stack_below files s t ≡ true → p s ≡ p t
    test_same s Unusable q = ap p (unusable_same s q)
    test_same s IntType q = ap p (int_same s q)
    test_same s NullType q = ap p (null_same s q)
    test_same s (OfType r) q = test_of s r q
    test_same s (Uninitialised at c) q = ap p (new_same at c s q)
    test_same s (UninitialisedThis c) q = ap p (this_same c s q)

    any_same : (ss ts : List VerificationType) → Pairwise (is_stack_below files) ss ts → list_any p ss ≡ list_any p ts
    any_same [] [] h = refl
    any_same [] (t ∷ ts) h = absurd h
    any_same (s ∷ ss) [] h = absurd h
    any_same (s ∷ ss) (t ∷ ts) h = ap (λ b. b || list_any p ss) (test_same s t h.0) ∙ ap (λ b. p t || b) (any_same ss ts h.1)

  pub any_made_same : (offset : ℕ) (ss ts : List VerificationType) → Pairwise (is_stack_below files) ss ts
      → list_any (is_made_at offset) ss ≡ list_any (is_made_at offset) ts
  any_made_same offset ss ts h = any_same (is_made_at offset) refl (λ r. refl) ss ts h

  pub any_this_same : (ss ts : List VerificationType) → Pairwise (is_stack_below files) ss ts
      → list_any is_any_this ss ≡ list_any is_any_this ts
  any_this_same ss ts h = any_same is_any_this refl (λ r. refl) ss ts h

  -- ---- changes of what is not initialised

  same_below : (f : VerificationType → VerificationType) (s t : VerificationType) → s ≡ t → is_stack_below files (f s) (f t) ≡ true
  same_below f s t e = subst (λ x. is_stack_below files (f s) (f x) ≡ true) e (stack_self files (f s))

  -- such a change, which keeps the other types
  module _ (f : VerificationType → VerificationType) (null : f NullType ≡ NullType) (of : (r : ReferenceType) → f (OfType r) ≡ OfType r) where
    kept_of : (s : VerificationType) (r : ReferenceType) → is_stack_below files s (OfType r) ≡ true
        → is_stack_below files (f s) (OfType r) ≡ true
    kept_of Unusable r q = absurd (false≢true q)
    kept_of IntType r q = absurd (false≢true q)
    kept_of NullType r q = subst (λ x. is_stack_below files x (OfType r) ≡ true) (sym null) refl
    kept_of (OfType t) r q = subst (λ x. is_stack_below files x (OfType r) ≡ true) (sym (of t)) q
    kept_of (Uninitialised at c) r q = absurd (false≢true q)
    kept_of (UninitialisedThis c) r q = absurd (false≢true q)

    changed_down : (s t : VerificationType) → is_stack_below files s t ≡ true → is_stack_below files (f s) (f t) ≡ true
    changed_down s Unusable q = same_below f s Unusable (unusable_same s q)
    changed_down s IntType q = same_below f s IntType (int_same s q)
    changed_down s NullType q = same_below f s NullType (null_same s q)
    changed_down s (OfType r) q = subst (λ x. is_stack_below files (f s) x ≡ true) (sym (of r)) (kept_of s r q)
    changed_down s (Uninitialised at c) q = same_below f s (Uninitialised at c) (new_same at c s q)
    changed_down s (UninitialisedThis c) q = same_below f s (UninitialisedThis c) (this_same c s q)

    -- in local variables
    changed_local : f Unusable ≡ Unusable → (s t : VerificationType) → is_local_below files s t ≡ true
        → is_local_below files (f s) (f t) ≡ true
    changed_local z s Unusable q = subst (λ x. is_local_below files (f s) x ≡ true) (sym z) refl
    changed_local z s IntType q = stack_local files (f s) (f IntType) (changed_down s IntType q)
    changed_local z s NullType q = stack_local files (f s) (f NullType) (changed_down s NullType q)
    changed_local z s (OfType r) q = stack_local files (f s) (f (OfType r)) (changed_down s (OfType r) q)
    changed_local z s (Uninitialised at c) q = stack_local files (f s) (f (Uninitialised at c)) (changed_down s (Uninitialised at c) q)
    changed_local z s (UninitialisedThis c) q = stack_local files (f s) (f (UninitialisedThis c)) (changed_down s (UninitialisedThis c) q)

  pub forgotten_local : (offset : ℕ) (s t : VerificationType) → is_local_below files s t ≡ true
      → is_local_below files (forgotten offset s) (forgotten offset t) ≡ true
  forgotten_local offset s t q = changed_local (forgotten offset) refl (λ r. refl) refl s t q

  null_kept : (of : VerificationType) → initialised of NullType ≡ NullType
  null_kept Unusable = refl
  null_kept IntType = refl
  null_kept NullType = refl
  null_kept (OfType t) = refl
  null_kept (Uninitialised at c) = refl
  null_kept (UninitialisedThis c) = refl

  unusable_kept : (of : VerificationType) → initialised of Unusable ≡ Unusable
  unusable_kept Unusable = refl
  unusable_kept IntType = refl
  unusable_kept NullType = refl
  unusable_kept (OfType t) = refl
  unusable_kept (Uninitialised at c) = refl
  unusable_kept (UninitialisedThis c) = refl

  of_kept : (of : VerificationType) (r : ReferenceType) → initialised of (OfType r) ≡ OfType r
  of_kept Unusable r = refl
  of_kept IntType r = refl
  of_kept NullType r = refl
  of_kept (OfType t) r = refl
  of_kept (Uninitialised at c) r = refl
  of_kept (UninitialisedThis c) r = refl

  under_of : (of : VerificationType) (r : ReferenceType) (s : VerificationType) → is_stack_below files of (OfType r) ≡ true
      → initialised of s ≡ s
  under_of Unusable r s q = refl
  under_of IntType r s q = refl
  under_of NullType r s q = refl
  under_of (OfType t) r s q = refl
  under_of (Uninitialised at c) r s q = absurd (false≢true q)
  under_of (UninitialisedThis c) r s q = absurd (false≢true q)

  -- at a lower receiver: it is the same one, or neither is uninitialised
  receiver_same : (of up s : VerificationType) → is_stack_below files of up ≡ true → initialised of s ≡ initialised up s
  receiver_same of Unusable s q = ap (λ x. initialised x s) (unusable_same of q)
  receiver_same of IntType s q = ap (λ x. initialised x s) (int_same of q)
  receiver_same of NullType s q = ap (λ x. initialised x s) (null_same of q)
  receiver_same of (OfType r) s q = under_of of r s q
  receiver_same of (Uninitialised at c) s q = ap (λ x. initialised x s) (new_same at c of q)
  receiver_same of (UninitialisedThis c) s q = ap (λ x. initialised x s) (this_same c of q)

  pub initialised_down : (of up : VerificationType) → is_stack_below files of up ≡ true → (s t : VerificationType)
      → is_stack_below files s t ≡ true → is_stack_below files (initialised of s) (initialised up t) ≡ true
  initialised_down of up p s t q =
      subst (λ x. is_stack_below files x (initialised up t) ≡ true) (sym (receiver_same of up s p)) (changed_down (initialised up) (null_kept up) (of_kept up) s t q)

  pub initialised_local : (of up : VerificationType) → is_stack_below files of up ≡ true → (s t : VerificationType)
      → is_local_below files s t ≡ true → is_local_below files (initialised of s) (initialised up t) ≡ true
  initialised_local of up p s t q =
      subst (λ x. is_local_below files x (initialised up t) ≡ true) (sym (receiver_same of up s p)) (changed_local (initialised up) (null_kept up) (of_kept up) (unusable_kept up) s t q)
