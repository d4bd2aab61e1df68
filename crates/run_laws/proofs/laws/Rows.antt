-- A local instruction over values follows the one over types.
use Rattle.std.proofs.Common.{◌≡◌, ℕ, ◌+◌, List, [], ◌∷◌, length, take, Bool, true, leb, refl, subst}
use Rattle.std.specs.Prelude.{slice_index_or}
use Rattle.std.proofs.lemmas.Bool.{false≢true, and_parts, and_from}
use Rattle.model.specs.declared.value.Value.{Value}
use Rattle.model.specs.declared.value.Value.TheVariants as value
use Rattle.model.specs.Classes.{Program}
use Rattle.model.specs.ReferenceTypes.{ReferenceType}
use Rattle.model.specs.Types.{VerificationType, Unusable, Want, type_meets, value_meets}
use Rattle.model.specs.Operands.{Slots, Domain, over_types, over_values, Wants, reads_meet, pops_meet, is_ready, operands, under}
use Rattle.model.specs.Rows.{Out, Copy, Number, Null, Row, out, written, row_wants, after_row}
use Rattle.model.specs.WellTyped.{has_type}
use Rattle.run_laws.proofs.laws.Lists.{Pairwise, pairs_of, of_pairs, pair_get, pair_set, pair_append, pair_take, pair_drop, pair_length, pair_map}
use Rattle.run_laws.specs.laws.Steps.{Rooted, AreTyped}
use Rattle.run_laws.proofs.laws.Order.{meets_both}

-- values stand where their types say
pub record SlotsTyped (files : Program) (objects : List ReferenceType) (ts : Slots VerificationType) (vs : Slots Value) : Type 0 where
  pub locals : Pairwise (has_type files objects) ts.locals vs.locals
  pub stack : Pairwise (has_type files objects) ts.stack vs.stack

pub slots_of : (files : Program) (objects : List ReferenceType) (ts : Slots VerificationType) (vs : Slots Value)
    → AreTyped files objects ts vs → SlotsTyped files objects ts vs
slots_of files objects ts vs h = record { locals = pairs_of _ _ _ h.locals; stack = pairs_of _ _ _ h.stack }

pub of_slots : (files : Program) (objects : List ReferenceType) (ts : Slots VerificationType) (vs : Slots Value)
    → SlotsTyped files objects ts vs → AreTyped files objects ts vs
of_slots files objects ts vs h = record { locals = of_pairs _ _ _ h.locals; stack = of_pairs _ _ _ h.stack }

-- what is popped is as wanted
popped : {A : Type 0} (accepts : Want → A → Bool) (ws : List Want) (xs : List A) → pops_meet accepts ws xs ≡ true
    → Pairwise accepts ws (take (length ws) xs)
popped accepts [] xs e = tt
popped accepts (w ∷ ws) [] e = absurd (false≢true e)
popped accepts (w ∷ ws) (x ∷ xs) e = let q = and_parts _ _ e in (q.0, popped accepts ws xs q.1)

pub ready_popped : {A : Type 0} (accepts : Want → A → Bool) (D : Domain A) (w : Wants) (max : ℕ) (s : Slots A)
    → is_ready accepts D w max s ≡ true → Pairwise accepts w.pops (take (length w.pops) s.stack)
ready_popped accepts D w max s e =
    let a = and_parts _ _ e in
    let b = and_parts _ _ a.1 in
    let c = and_parts _ _ b.1 in
    popped accepts w.pops s.stack c.0

module _ (files : Program) (rooted : Rooted files) (objects : List ReferenceType) where
  reads_both : (rs : List (ℕ × Want)) (ts : List VerificationType) (vs : List Value) → Pairwise (has_type files objects) ts vs
      → reads_meet (type_meets files) over_types rs ts ≡ true → reads_meet (value_meets files objects) over_values rs vs ≡ true
  reads_both [] ts vs f e = refl
  reads_both (r ∷ rs) ts vs f e =
      let q = and_parts _ _ e in
      and_from _ _ (meets_both files rooted objects r.1 (slice_index_or ts r.0 Unusable) (slice_index_or vs r.0 value.Unset) q.0 (pair_get (has_type files objects) ts vs Unusable value.Unset f refl r.0)) (reads_both rs ts vs f q.1)

  pops_both : (ws : List Want) (ts : List VerificationType) (vs : List Value) → Pairwise (has_type files objects) ts vs
      → pops_meet (type_meets files) ws ts ≡ true → pops_meet (value_meets files objects) ws vs ≡ true
  pops_both [] ts vs f e = refl
  pops_both (w ∷ ws) [] vs f e = absurd (false≢true e)
  pops_both (w ∷ ws) (t ∷ ts) [] f e = absurd f
  pops_both (w ∷ ws) (t ∷ ts) (v ∷ vs) f e =
      let q = and_parts _ _ e in
      and_from _ _ (meets_both files rooted objects w t v q.0 f.0) (pops_both ws ts vs f.1 q.1)

  -- what the typing finds, the run finds
  pub ready_both : (w : Wants) (max : ℕ) (ts : Slots VerificationType) (vs : Slots Value) → SlotsTyped files objects ts vs
      → is_ready (type_meets files) over_types w max ts ≡ true → is_ready (value_meets files objects) over_values w max vs ≡ true
  ready_both w max ts vs f e =
      let a = and_parts _ _ e in
      let b = and_parts _ _ a.1 in
      let c = and_parts _ _ b.1 in
      let n = pair_length (has_type files objects) _ _ (pair_drop (has_type files objects) (length w.pops) ts.stack vs.stack f.stack) in
      and_from _ _ a.0 (and_from _ _ (reads_both w.reads ts.locals vs.locals f.locals b.0) (and_from _ _ (pops_both w.pops ts.stack vs.stack f.stack c.0) (subst (λ k. leb (k + w.grows) max ≡ true) n c.1)))

  pub operands_both : (w : Wants) (ts : Slots VerificationType) (vs : Slots Value) → SlotsTyped files objects ts vs
      → Pairwise (has_type files objects) (operands over_types w ts) (operands over_values w vs)
  operands_both w ts vs f =
      pair_append (has_type files objects) _ _ _ _ (pair_map (has_type files objects) _ _ w.reads (λ r. pair_get (has_type files objects) ts.locals vs.locals Unusable value.Unset f.locals refl r.0)) (pair_take (has_type files objects) (length w.pops) ts.stack vs.stack f.stack)

  pub under_both : (w : Wants) (ts : Slots VerificationType) (vs : Slots Value) → SlotsTyped files objects ts vs
      → Pairwise (has_type files objects) (under w ts) (under w vs)
  under_both w ts vs f = pair_drop (has_type files objects) (length w.pops) ts.stack vs.stack f.stack

  module _ (os : List VerificationType) (us : List Value) (f : Pairwise (has_type files objects) os us) where
    out_both : (o : Out) → has_type files objects (out over_types os o) (out over_values us o) ≡ true
    out_both (Copy k) = pair_get (has_type files objects) os us Unusable value.Unset f refl k
    out_both (Number g) = refl
    out_both Null = refl

    written_both : (ws : List (ℕ × Out)) (ts : List VerificationType) (vs : List Value) → Pairwise (has_type files objects) ts vs
        → Pairwise (has_type files objects) (written over_types os ws ts) (written over_values us ws vs)
    written_both [] ts vs g = g
    written_both (w ∷ ws) ts vs g = written_both ws _ _ (pair_set (has_type files objects) ts vs _ _ g (out_both w.1) w.0)

  -- every local instruction at once
  pub after_row_both : (r : Row) (ts : Slots VerificationType) (vs : Slots Value) → SlotsTyped files objects ts vs
      → SlotsTyped files objects (after_row over_types r ts) (after_row over_values r vs)
  after_row_both r ts vs f =
      let o = operands_both (row_wants r) ts vs f in
      record {
        locals = written_both _ _ o r.writes ts.locals vs.locals f.locals;
        stack = pair_append (has_type files objects) _ _ _ _ (pair_map (has_type files objects) _ _ r.pushes (out_both _ _ o)) (under_both (row_wants r) ts vs f);
      }
