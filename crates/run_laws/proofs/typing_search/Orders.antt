-- The orders of the verifier's types and of frame types: each is one.
use Rattle.std.proofs.Common.{◌≡◌, ℕ, List, [], ◌∷◌, Bool, true, false, eqb, refl, sym, ap, ◌∙◌, subst}
use Rattle.std.proofs.lemmas.Bool.{false≢true, and_parts, and_from, eqb-true, eq-eqb}
use Rattle.model.specs.Names.{Name, name_eq}
use Rattle.model.specs.Classes.{Program}
use Rattle.model.specs.ReferenceTypes.{ReferenceType, is_assignable}
use Rattle.model.specs.Types.{VerificationType, Unusable, IntType, NullType, OfType, Uninitialised, UninitialisedThis, is_int, is_of}
use Rattle.model.specs.InitialisedTypes.{is_uninitialised, is_uninitialised_this}
use Rattle.model.specs.TypeOrder.{FrameType, is_null, is_unusable, is_stack_below, is_local_below, is_mark_below, is_frame_below}
use Rattle.run_laws.specs.laws.Steps.{Rooted}
use Rattle.run_laws.proofs.laws.Classes.{names_same, name_self}
use Rattle.run_laws.proofs.laws.Order.{assignable_self, assignable_trans}
use Rattle.run_laws.proofs.laws.Lists.{Pairwise, pairs_of, of_pairs}

-- ---- what is below a type that is no class and no array is that type

pub unusable_same : (t : VerificationType) → is_unusable t ≡ true → t ≡ Unusable
unusable_same Unusable p = refl
unusable_same IntType p = absurd (false≢true p)
unusable_same NullType p = absurd (false≢true p)
unusable_same (OfType r) p = absurd (false≢true p)
unusable_same (Uninitialised at c) p = absurd (false≢true p)
unusable_same (UninitialisedThis c) p = absurd (false≢true p)

pub int_same : (t : VerificationType) → is_int t ≡ true → t ≡ IntType
int_same Unusable p = absurd (false≢true p)
int_same IntType p = refl
int_same NullType p = absurd (false≢true p)
int_same (OfType r) p = absurd (false≢true p)
int_same (Uninitialised at c) p = absurd (false≢true p)
int_same (UninitialisedThis c) p = absurd (false≢true p)

pub null_same : (t : VerificationType) → is_null t ≡ true → t ≡ NullType
null_same Unusable p = absurd (false≢true p)
null_same IntType p = absurd (false≢true p)
null_same NullType p = refl
null_same (OfType r) p = absurd (false≢true p)
null_same (Uninitialised at c) p = absurd (false≢true p)
null_same (UninitialisedThis c) p = absurd (false≢true p)

pub new_same : (at : ℕ) (c : Name) (t : VerificationType) → is_uninitialised at c t ≡ true → t ≡ Uninitialised at c
new_same at c Unusable p = absurd (false≢true p)
new_same at c IntType p = absurd (false≢true p)
new_same at c NullType p = absurd (false≢true p)
new_same at c (OfType r) p = absurd (false≢true p)
new_same at c (Uninitialised b d) p =
    let q = and_parts (eqb b at) (name_eq d c) p in
    ap (λ x. Uninitialised x d) (eqb-true b at q.0) ∙ ap (λ x. Uninitialised at x) (names_same d c q.1)
new_same at c (UninitialisedThis d) p = absurd (false≢true p)

pub this_same : (c : Name) (t : VerificationType) → is_uninitialised_this c t ≡ true → t ≡ UninitialisedThis c
this_same c Unusable p = absurd (false≢true p)
this_same c IntType p = absurd (false≢true p)
this_same c NullType p = absurd (false≢true p)
this_same c (OfType r) p = absurd (false≢true p)
this_same c (Uninitialised b d) p = absurd (false≢true p)
this_same c (UninitialisedThis d) p = ap (λ x. UninitialisedThis x) (names_same d c p)

-- ---- types

module _ (files : Program) where
  pub stack_self : (t : VerificationType) → is_stack_below files t t ≡ true
  stack_self Unusable = refl
  stack_self IntType = refl
  stack_self NullType = refl
  stack_self (OfType r) = assignable_self files r
  stack_self (Uninitialised at c) = and_from _ _ (eq-eqb at at refl) (name_self c)
  stack_self (UninitialisedThis c) = name_self c

  -- the order on the operand stack is a part of that in local variables
  pub stack_local : (s t : VerificationType) → is_stack_below files s t ≡ true → is_local_below files s t ≡ true
  stack_local s Unusable p = refl
  stack_local s IntType p = p
  stack_local s NullType p = p
  stack_local s (OfType r) p = p
  stack_local s (Uninitialised at c) p = p
  stack_local s (UninitialisedThis c) p = p

  pub local_self : (t : VerificationType) → is_local_below files t t ≡ true
  local_self t = stack_local t t (stack_self t)

  pub unusable_below : (v : VerificationType) → is_local_below files Unusable v ≡ true → v ≡ Unusable
  unusable_below Unusable p = refl
  unusable_below IntType p = absurd (false≢true p)
  unusable_below NullType p = absurd (false≢true p)
  unusable_below (OfType r) p = absurd (false≢true p)
  unusable_below (Uninitialised at c) p = absurd (false≢true p)
  unusable_below (UninitialisedThis c) p = absurd (false≢true p)

  module _ (rooted : Rooted files) where
    of_up : (s : VerificationType) (u r : ReferenceType) → is_of files u s ≡ true → is_assignable files u r ≡ true → is_of files r s ≡ true
    of_up Unusable u r p q = absurd (false≢true p)
    of_up IntType u r p q = absurd (false≢true p)
    of_up NullType u r p q = refl
    of_up (OfType t) u r p q = assignable_trans files rooted t u r p q
    of_up (Uninitialised at c) u r p q = absurd (false≢true p)
    of_up (UninitialisedThis c) u r p q = absurd (false≢true p)

    pub of_trans : (s t : VerificationType) (r : ReferenceType) → is_stack_below files s t ≡ true → is_of files r t ≡ true
        → is_of files r s ≡ true
    of_trans s Unusable r p q = absurd (false≢true q)
    of_trans s IntType r p q = absurd (false≢true q)
    of_trans s NullType r p q = subst (λ x. is_of files r x ≡ true) (sym (null_same s p)) refl
    of_trans s (OfType u) r p q = of_up s u r p q
    of_trans s (Uninitialised at c) r p q = absurd (false≢true q)
    of_trans s (UninitialisedThis c) r p q = absurd (false≢true q)

    pub stack_trans : (s t v : VerificationType) → is_stack_below files s t ≡ true → is_stack_below files t v ≡ true
        → is_stack_below files s v ≡ true
    stack_trans s t Unusable p q = subst (λ x. is_stack_below files s x ≡ true) (unusable_same t q) p
    stack_trans s t IntType p q = subst (λ x. is_stack_below files s x ≡ true) (int_same t q) p
    stack_trans s t NullType p q = subst (λ x. is_stack_below files s x ≡ true) (null_same t q) p
    stack_trans s t (OfType r) p q = of_trans s t r p q
    stack_trans s t (Uninitialised at c) p q = subst (λ x. is_stack_below files s x ≡ true) (new_same at c t q) p
    stack_trans s t (UninitialisedThis c) p q = subst (λ x. is_stack_below files s x ≡ true) (this_same c t q) p

    -- from a type that is usable, to one above it
    local_by : (s t : VerificationType) → (is_local_below files s t ≡ true → is_stack_below files s t ≡ true) → (v : VerificationType)
        → is_local_below files s t ≡ true → is_local_below files t v ≡ true → is_local_below files s v ≡ true
    local_by s t w Unusable p q = refl
    local_by s t w IntType p q = stack_trans s t IntType (w p) q
    local_by s t w NullType p q = stack_trans s t NullType (w p) q
    local_by s t w (OfType r) p q = stack_trans s t (OfType r) (w p) q
    local_by s t w (Uninitialised at c) p q = stack_trans s t (Uninitialised at c) (w p) q
    local_by s t w (UninitialisedThis c) p q = stack_trans s t (UninitialisedThis c) (w p) q

    pub local_trans : (s t v : VerificationType) → is_local_below files s t ≡ true → is_local_below files t v ≡ true
        → is_local_below files s v ≡ true
    local_trans s Unusable v p q = subst (λ x. is_local_below files s x ≡ true) (sym (unusable_below v q)) refl
    local_trans s IntType v p q = local_by s IntType (λ x. x) v p q
    local_trans s NullType v p q = local_by s NullType (λ x. x) v p q
    local_trans s (OfType r) v p q = local_by s (OfType r) (λ x. x) v p q
    local_trans s (Uninitialised at c) v p q = local_by s (Uninitialised at c) (λ x. x) v p q
    local_trans s (UninitialisedThis c) v p q = local_by s (UninitialisedThis c) (λ x. x) v p q

-- ---- the mark

pub mark_self : (a : Bool) → is_mark_below a a ≡ true
mark_self true = refl
mark_self false = refl

pub mark_trans : (a b c : Bool) → is_mark_below a b ≡ true → is_mark_below b c ≡ true → is_mark_below a c ≡ true
mark_trans true b c p q = refl
mark_trans false true c p q = absurd (false≢true p)
mark_trans false false c p q = q

-- ---- frame types

pub pair_self : {A : Type 0} (R : A → A → Bool) → ((x : A) → R x x ≡ true) → (xs : List A) → Pairwise R xs xs
pair_self R r [] = tt
pair_self R r (x ∷ xs) = (r x, pair_self R r xs)

pub pair_trans : {A : Type 0} (R : A → A → Bool) → ((x y z : A) → R x y ≡ true → R y z ≡ true → R x z ≡ true) → (xs ys zs : List A)
    → Pairwise R xs ys → Pairwise R ys zs → Pairwise R xs zs
pair_trans R r [] [] zs f g = g
pair_trans R r [] (y ∷ ys) zs f g = absurd f
pair_trans R r (x ∷ xs) [] zs f g = absurd f
pair_trans R r (x ∷ xs) (y ∷ ys) [] f g = absurd g
pair_trans R r (x ∷ xs) (y ∷ ys) (z ∷ zs) f g = (r x y z f.0 g.0, pair_trans R r xs ys zs f.1 g.1)

-- the parts of the order of frame types
pub record Below (files : Program) (a b : FrameType) : Type 0 where
  pub locals : Pairwise (is_local_below files) a.slots.locals b.slots.locals
  pub stack : Pairwise (is_stack_below files) a.slots.stack b.slots.stack
  pub mark : is_mark_below a.constructed b.constructed ≡ true

module _ (files : Program) where
  pub below_parts : (a b : FrameType) → is_frame_below files a b ≡ true → Below files a b
  below_parts a b e =
      let q = and_parts _ _ e in
      let r = and_parts _ _ q.1 in
      record { locals = pairs_of _ a.slots.locals b.slots.locals q.0; stack = pairs_of _ a.slots.stack b.slots.stack r.0; mark = r.1 }

  pub from_parts : (a b : FrameType) → Below files a b → is_frame_below files a b ≡ true
  from_parts a b f =
      and_from _ _ (of_pairs _ a.slots.locals b.slots.locals f.locals) (and_from _ _ (of_pairs _ a.slots.stack b.slots.stack f.stack) f.mark)

  pub frame_self : (a : FrameType) → is_frame_below files a a ≡ true
  frame_self a =
      from_parts a a (record {
        locals = pair_self (is_local_below files) (local_self files) a.slots.locals;
        stack = pair_self (is_stack_below files) (stack_self files) a.slots.stack;
        mark = mark_self a.constructed;
      })

  pub frame_trans : Rooted files → (a b c : FrameType) → is_frame_below files a b ≡ true → is_frame_below files b c ≡ true
      → is_frame_below files a c ≡ true
  frame_trans rooted a b c p q =
      let f = below_parts a b p in
      let g = below_parts b c q in
      from_parts a c (record {
        locals = pair_trans (is_local_below files) (local_trans files rooted) a.slots.locals b.slots.locals c.slots.locals f.locals g.locals;
        stack = pair_trans (is_stack_below files) (stack_trans files rooted) a.slots.stack b.slots.stack c.slots.stack f.stack g.stack;
        mark = mark_trans a.constructed b.constructed c.constructed f.mark g.mark;
      })
