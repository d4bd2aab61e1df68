-- What an instruction finds at types it finds at types below them; and a local instruction leaves lower ones.
use Rattle.std.proofs.Common.{◌≡◌, ℕ, ◌+◌, List, [], ◌∷◌, length, map, Bool, true, leb, refl, sym, subst}
use Rattle.std.specs.Prelude.{slice_index_or}
use Rattle.std.proofs.lemmas.Bool.{false≢true, and_parts, and_from}
use Rattle.model.specs.Names.{Name}
use Rattle.model.specs.Classes.{Program}
use Rattle.model.specs.ReferenceTypes.{ReferenceType, ClassType, is_assignable}
use Rattle.model.specs.Types.{VerificationType, Unusable, IntType, NullType, OfType, Uninitialised, UninitialisedThis, Want, AnyWord, AnInt, AnyReference, AReference, AReceiver, AnOwner, AnArray, AByteArray, is_usable, is_int, is_reference, is_of, is_receiver, is_instance_or_this, has_type_with, is_array_type, is_byte_array_type, type_meets}
use Rattle.model.specs.Operands.{Slots, over_types, Wants, reads_meet, pops_meet, is_ready, operands, under}
use Rattle.model.specs.Rows.{Out, Copy, Number, Null, Row, out, written, row_wants, after_row}
use Rattle.model.specs.TypeOrder.{is_stack_below, is_local_below}
use Rattle.run_laws.specs.laws.Steps.{Rooted}
use Rattle.run_laws.proofs.laws.Order.{assignable_trans, array_down, byte_array_down}
use Rattle.run_laws.proofs.laws.Lists.{Pairwise, pair_get, pair_set, pair_append, pair_take, pair_drop, pair_length}
use Rattle.run_laws.proofs.typing_search.Orders.{int_same, null_same, new_same, this_same, stack_local, unusable_below, of_trans}

-- the parts of a frame type's order but for the mark
pub record SlotsBelow (files : Program) (a b : Slots VerificationType) : Type 0 where
  pub locals : Pairwise (is_local_below files) a.locals b.locals
  pub stack : Pairwise (is_stack_below files) a.stack b.stack

module _ (files : Program) (rooted : Rooted files) where
  -- ---- what is wanted

  usable_down : (s t : VerificationType) → is_stack_below files s t ≡ true → is_usable t ≡ true → is_usable s ≡ true
  usable_down Unusable t p q = absurd (false≢true (subst (λ x. is_usable x ≡ true) (unusable_below files t (stack_local files Unusable t p)) q))
  usable_down IntType t p q = refl
  usable_down NullType t p q = refl
  usable_down (OfType r) t p q = refl
  usable_down (Uninitialised at c) t p q = refl
  usable_down (UninitialisedThis c) t p q = refl

  int_down : (s t : VerificationType) → is_stack_below files s t ≡ true → is_int t ≡ true → is_int s ≡ true
  int_down s t p q = subst (λ x. is_stack_below files s x ≡ true) (int_same t q) p

  int_no_reference : (t : VerificationType) → is_stack_below files IntType t ≡ true → is_reference t ≡ true → ⊥
  int_no_reference Unusable p q = false≢true p
  int_no_reference IntType p q = false≢true q
  int_no_reference NullType p q = false≢true p
  int_no_reference (OfType r) p q = false≢true p
  int_no_reference (Uninitialised at c) p q = false≢true p
  int_no_reference (UninitialisedThis c) p q = false≢true p

  reference_down : (s t : VerificationType) → is_stack_below files s t ≡ true → is_reference t ≡ true → is_reference s ≡ true
  reference_down Unusable t p q = absurd (false≢true (subst (λ x. is_reference x ≡ true) (unusable_below files t (stack_local files Unusable t p)) q))
  reference_down IntType t p q = absurd (int_no_reference t p q)
  reference_down NullType t p q = refl
  reference_down (OfType r) t p q = refl
  reference_down (Uninitialised at c) t p q = refl
  reference_down (UninitialisedThis c) t p q = refl

  receiver_down : (class : Name) (s t : VerificationType) → is_stack_below files s t ≡ true → is_receiver files class t ≡ true
      → is_receiver files class s ≡ true
  receiver_down class s Unusable p q = absurd (false≢true q)
  receiver_down class s IntType p q = absurd (false≢true q)
  receiver_down class s NullType p q = absurd (false≢true q)
  receiver_down class s (OfType r) p q = absurd (false≢true q)
  receiver_down class s (Uninitialised at c) p q = subst (λ x. is_receiver files class x ≡ true) (sym (new_same at c s p)) q
  receiver_down class s (UninitialisedThis c) p q = subst (λ x. is_receiver files class x ≡ true) (sym (this_same c s p)) q

  owner_of : (class : Name) (s : VerificationType) (r : ReferenceType) → is_of files r s ≡ true
      → is_assignable files r (ClassType class) ≡ true → is_instance_or_this files class s ≡ true
  owner_of class Unusable r p q = p
  owner_of class IntType r p q = p
  owner_of class NullType r p q = refl
  owner_of class (OfType t) r p q = assignable_trans files rooted t r (ClassType class) p q
  owner_of class (Uninitialised at c) r p q = p
  owner_of class (UninitialisedThis c) r p q = absurd (false≢true p)

  owner_down : (class : Name) (s t : VerificationType) → is_stack_below files s t ≡ true → is_instance_or_this files class t ≡ true
      → is_instance_or_this files class s ≡ true
  owner_down class s Unusable p q = absurd (false≢true q)
  owner_down class s IntType p q = absurd (false≢true q)
  owner_down class s NullType p q = subst (λ x. is_instance_or_this files class x ≡ true) (sym (null_same s p)) refl
  owner_down class s (OfType r) p q = owner_of class s r p q
  owner_down class s (Uninitialised at c) p q = absurd (false≢true q)
  owner_down class s (UninitialisedThis c) p q = subst (λ x. is_instance_or_this files class x ≡ true) (sym (this_same c s p)) q

  module _ (test : ReferenceType → Bool) (down : (u t : ReferenceType) → is_assignable files u t ≡ true → test t ≡ true → test u ≡ true) where
    with_of : (s : VerificationType) (r : ReferenceType) → is_of files r s ≡ true → test r ≡ true → has_type_with test s ≡ true
    with_of Unusable r p q = p
    with_of IntType r p q = p
    with_of NullType r p q = refl
    with_of (OfType t) r p q = down t r p q
    with_of (Uninitialised at c) r p q = p
    with_of (UninitialisedThis c) r p q = p

    with_down : (s t : VerificationType) → is_stack_below files s t ≡ true → has_type_with test t ≡ true → has_type_with test s ≡ true
    with_down s Unusable p q = absurd (false≢true q)
    with_down s IntType p q = absurd (false≢true q)
    with_down s NullType p q = subst (λ x. has_type_with test x ≡ true) (sym (null_same s p)) refl
    with_down s (OfType r) p q = with_of s r p q
    with_down s (Uninitialised at c) p q = absurd (false≢true q)
    with_down s (UninitialisedThis c) p q = absurd (false≢true q)

  -- what is wanted goes down the order
  pub meets_down : (w : Want) (s t : VerificationType) → is_stack_below files s t ≡ true → type_meets files w t ≡ true
      → type_meets files w s ≡ true
  meets_down AnyWord s t p q = usable_down s t p q
  meets_down AnInt s t p q = int_down s t p q
  meets_down AnyReference s t p q = reference_down s t p q
  meets_down (AReference r) s t p q = of_trans files rooted s t r p q
  meets_down (AReceiver class) s t p q = receiver_down class s t p q
  meets_down (AnOwner class) s t p q = owner_down class s t p q
  meets_down AnArray s t p q = with_down is_array_type (array_down files) s t p q
  meets_down AByteArray s t p q = with_down is_byte_array_type (byte_array_down files) s t p q

  never_unusable : (w : Want) → type_meets files w Unusable ≡ true → ⊥
  never_unusable AnyWord q = false≢true q
  never_unusable AnInt q = false≢true q
  never_unusable AnyReference q = false≢true q
  never_unusable (AReference r) q = false≢true q
  never_unusable (AReceiver class) q = false≢true q
  never_unusable (AnOwner class) q = false≢true q
  never_unusable AnArray q = false≢true q
  never_unusable AByteArray q = false≢true q

  -- a local variable that is as wanted is usable, so what is below it is so on the stack too
  wanted_stack : (w : Want) (s t : VerificationType) → type_meets files w t ≡ true → is_local_below files s t ≡ true
      → is_stack_below files s t ≡ true
  wanted_stack w s Unusable q p = absurd (never_unusable w q)
  wanted_stack w s IntType q p = p
  wanted_stack w s NullType q p = p
  wanted_stack w s (OfType r) q p = p
  wanted_stack w s (Uninitialised at c) q p = p
  wanted_stack w s (UninitialisedThis c) q p = p

  -- ---- operands

  local_at : (ss ts : List VerificationType) → Pairwise (is_local_below files) ss ts → (k : ℕ)
      → is_local_below files (slice_index_or ss k Unusable) (slice_index_or ts k Unusable) ≡ true
  local_at ss ts f k = pair_get (is_local_below files) ss ts Unusable Unusable f refl k

  reads_down : (rs : List (ℕ × Want)) (ss ts : List VerificationType) → Pairwise (is_local_below files) ss ts
      → reads_meet (type_meets files) over_types rs ts ≡ true → reads_meet (type_meets files) over_types rs ss ≡ true
  reads_down [] ss ts f e = refl
  reads_down (r ∷ rs) ss ts f e =
      let q = and_parts _ _ e in
      let s = slice_index_or ss r.0 Unusable in
      let t = slice_index_or ts r.0 Unusable in
      and_from _ _ (meets_down r.1 s t (wanted_stack r.1 s t q.0 (local_at ss ts f r.0)) q.0) (reads_down rs ss ts f q.1)

  pops_down : (ws : List Want) (ss ts : List VerificationType) → Pairwise (is_stack_below files) ss ts
      → pops_meet (type_meets files) ws ts ≡ true → pops_meet (type_meets files) ws ss ≡ true
  pops_down [] ss ts f e = refl
  pops_down (w ∷ ws) ss [] f e = absurd (false≢true e)
  pops_down (w ∷ ws) [] (t ∷ ts) f e = absurd f
  pops_down (w ∷ ws) (s ∷ ss) (t ∷ ts) f e =
      let q = and_parts _ _ e in
      and_from _ _ (meets_down w s t f.0 q.0) (pops_down ws ss ts f.1 q.1)

  read_types : (rs : List (ℕ × Want)) (ss ts : List VerificationType) → Pairwise (is_local_below files) ss ts
      → reads_meet (type_meets files) over_types rs ts ≡ true
      → Pairwise (is_stack_below files) (map (λ r. slice_index_or ss r.0 Unusable) rs) (map (λ r. slice_index_or ts r.0 Unusable) rs)
  read_types [] ss ts f e = tt
  read_types (r ∷ rs) ss ts f e =
      let q = and_parts _ _ e in
      (wanted_stack r.1 (slice_index_or ss r.0 Unusable) (slice_index_or ts r.0 Unusable) q.0 (local_at ss ts f r.0), read_types rs ss ts f q.1)

  module _ (a b : Slots VerificationType) (f : SlotsBelow files a b) (w : Wants) (max : ℕ) where
    pub ready_down : is_ready (type_meets files) over_types w max b ≡ true → is_ready (type_meets files) over_types w max a ≡ true
    ready_down e =
        let x = and_parts _ _ e in
        let y = and_parts _ _ x.1 in
        let z = and_parts _ _ y.1 in
        let l = pair_length (is_stack_below files) _ _ (pair_drop (is_stack_below files) (length w.pops) a.stack b.stack f.stack) in
        and_from _ _ x.0 (and_from _ _ (reads_down w.reads a.locals b.locals f.locals y.0) (and_from _ _ (pops_down w.pops a.stack b.stack f.stack z.0) (subst (λ k. leb (k + w.grows) max ≡ true) (sym l) z.1)))

    pub operands_down : is_ready (type_meets files) over_types w max b ≡ true
        → Pairwise (is_stack_below files) (operands over_types w a) (operands over_types w b)
    operands_down e =
        let x = and_parts _ _ e in
        let y = and_parts _ _ x.1 in
        pair_append (is_stack_below files) _ _ _ _ (read_types w.reads a.locals b.locals f.locals y.0) (pair_take (is_stack_below files) (length w.pops) a.stack b.stack f.stack)

  pub under_down : (w : Wants) (a b : Slots VerificationType) → SlotsBelow files a b
      → Pairwise (is_stack_below files) (under w a) (under w b)
  under_down w a b f = pair_drop (is_stack_below files) (length w.pops) a.stack b.stack f.stack

  -- ---- rows

  module _ (os us : List VerificationType) (f : Pairwise (is_stack_below files) os us) where
    out_down : (o : Out) → is_stack_below files (out over_types os o) (out over_types us o) ≡ true
    out_down (Copy k) = pair_get (is_stack_below files) os us Unusable Unusable f refl k
    out_down (Number g) = refl
    out_down Null = refl

    outs_down : (xs : List Out) → Pairwise (is_stack_below files) (map (out over_types os) xs) (map (out over_types us) xs)
    outs_down [] = tt
    outs_down (o ∷ xs) = (out_down o, outs_down xs)

    written_down : (ws : List (ℕ × Out)) (ss ts : List VerificationType) → Pairwise (is_local_below files) ss ts
        → Pairwise (is_local_below files) (written over_types os ws ss) (written over_types us ws ts)
    written_down [] ss ts g = g
    written_down (w ∷ ws) ss ts g =
        written_down ws _ _ (pair_set (is_local_below files) ss ts _ _ g (stack_local files (out over_types os w.1) (out over_types us w.1) (out_down w.1)) w.0)

  -- every local instruction at once
  pub after_row_down : (r : Row) (max : ℕ) (a b : Slots VerificationType) → SlotsBelow files a b
      → is_ready (type_meets files) over_types (row_wants r) max b ≡ true
      → SlotsBelow files (after_row over_types r a) (after_row over_types r b)
  after_row_down r max a b f e =
      let o = operands_down a b f (row_wants r) max e in
      record {
        locals = written_down _ _ o r.writes a.locals b.locals f.locals;
        stack = pair_append (is_stack_below files) _ _ _ _ (outs_down _ _ o r.pushes) (under_down (row_wants r) a b f);
      }
