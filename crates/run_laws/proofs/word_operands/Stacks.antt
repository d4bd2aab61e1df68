-- Operands by their types, their values and their words.
use Rattle.std.proofs.Common.{◌≡◌, ℕ, zero, suc, ◌+◌, ◌<◌, ◌≤◌, List, [], ◌∷◌, length, map, take, drop, Bool, true, false, leb, Option, Some, None, refl, sym, ap, ◌∙◌, subst, arith}
use Rattle.std.specs.Prelude.{slice_get, slice_index_or}
use Rattle.std.specs.Option.{option_map_or}
use Rattle.std.specs.List.{AllByRecursion}
use Rattle.std.proofs.lemmas.Bool.{false≢true, and_parts, and_from, lt-ltb, ltb-true}
use Rattle.std.proofs.lemmas.List.{length-map, drop-map}
use Rattle.model.specs.declared.value.Value.{Value}
use Rattle.model.specs.declared.value.Value.TheVariants as value
use Rattle.model.specs.Classes.{Program}
use Rattle.model.specs.ReferenceTypes.{ReferenceType, ClassType, is_assignable}
use Rattle.model.specs.Types.{VerificationType, Unusable, IntType, NullType, OfType, Uninitialised, UninitialisedThis, Want, AnyWord, AnInt, AnyReference, AReference, AReceiver, AnOwner, AnArray, AByteArray, type_meets, value_meets, is_value_below, is_object_below, is_value_with, is_int_value, is_reference_value, is_array_type, is_byte_array_type}
use Rattle.model.specs.Operands.{Slots, Wants, over_types, over_words, word_of, reads_meet, pops_meet, is_ready}
use Rattle.model.specs.WellTyped.{has_type, is_null_value}
use Rattle.model.specs.Words.{map_slots}
use Rattle.run_laws.specs.laws.Steps.{Rooted}
use Rattle.run_laws.proofs.laws.Lists.{Pairwise, pair_get, pair_length, pair_drop}
use Rattle.run_laws.proofs.laws.Rows.{SlotsTyped}
use Rattle.run_laws.proofs.laws.Order.{meets_both}
use Rattle.run_laws.proofs.laws.WordLists.{map_index}
use Rattle.run_laws.specs.word_operands.Operands.{is_word_with, word_meets, is_value_in}

-- ---- a value of a type is there

module _ (files : Program) (os : List ReferenceType) where
  object_within : (t : ReferenceType) (objects : List ReferenceType) (r : ℕ) → is_object_below files t (slice_get objects r) ≡ true
      → r < length objects
  object_within t [] r h = absurd (false≢true h)
  object_within t (x ∷ objects) zero h = omega arith
  object_within t (x ∷ objects) (suc r) h = omega (arith, object_within t objects r h)

  below_in : (t : ReferenceType) (v : Value) → is_value_below files os t v ≡ true → is_value_in (length os) v ≡ true
  below_in t value.Unset h = h
  below_in t (value.Int bits) h = refl
  below_in t value.Null h = refl
  below_in t (value.Reference r) h = lt-ltb r (length os) (object_within t os r h)

  int_in : (v : Value) → is_int_value v ≡ true → is_value_in (length os) v ≡ true
  int_in value.Unset h = h
  int_in (value.Int bits) h = refl
  int_in value.Null h = refl
  int_in (value.Reference r) h = absurd (false≢true h)

  null_in : (v : Value) → is_null_value v ≡ true → is_value_in (length os) v ≡ true
  null_in value.Unset h = h
  null_in (value.Int bits) h = refl
  null_in value.Null h = refl
  null_in (value.Reference r) h = absurd (false≢true h)

  -- of no want is what is unusable
  unusable : (w : Want) → type_meets files w Unusable ≡ false
  unusable AnyWord = refl
  unusable AnInt = refl
  unusable AnyReference = refl
  unusable (AReference t) = refl
  unusable (AReceiver class) = refl
  unusable (AnOwner class) = refl
  unusable AnArray = refl
  unusable AByteArray = refl

  wanted_in : (w : Want) (t : VerificationType) (v : Value) → type_meets files w t ≡ true → has_type files os t v ≡ true
      → is_value_in (length os) v ≡ true
  wanted_in w Unusable v p h = absurd (false≢true (sym (unusable w) ∙ p))
  wanted_in w IntType v p h = int_in v h
  wanted_in w NullType v p h = null_in v h
  wanted_in w (OfType t) v p h = below_in t v h
  wanted_in w (Uninitialised at c) v p h = below_in (ClassType c) v h
  wanted_in w (UninitialisedThis c) v p h = below_in (ClassType c) v h

  -- ---- a value as wanted, by its word

  -- of the types that pass a test
  with_word : (test : ReferenceType → Bool) (v : Value) → is_value_with os test v ≡ true → is_word_with os test (word_of v) ≡ true
  with_word test value.Unset h = refl
  with_word test (value.Int bits) h = absurd (false≢true h)
  with_word test value.Null h = refl
  with_word test (value.Reference r) h = h

  below_word : (want : ReferenceType) (v : Value) → is_value_below files os want v ≡ true
      → word_meets files os (AReference want) (word_of v) ≡ true
  below_word want value.Unset h = refl
  below_word want (value.Int bits) h = absurd (false≢true h)
  below_word want value.Null h = refl
  below_word want (value.Reference r) h = by (slice_get os r) h
    where
      by : (o : Option ReferenceType) → is_object_below files want o ≡ true → option_map_or (λ t. is_assignable files t want) o false ≡ true
      by None q = q
      by (Some t) q = q

  there_is : (objects : List ReferenceType) (r : ℕ) → r < length objects
      → option_map_or (λ (t : ReferenceType). true) (slice_get objects r) false ≡ true
  there_is [] r h = absurd (omega (arith, h))
  there_is (x ∷ objects) zero h = refl
  there_is (x ∷ objects) (suc r) h = there_is objects r (omega (arith, h))

  any_word : (v : Value) → is_reference_value v ≡ true → is_value_in (length os) v ≡ true
      → word_meets files os AnyReference (word_of v) ≡ true
  any_word value.Unset p h = refl
  any_word (value.Int bits) p h = absurd (false≢true p)
  any_word value.Null p h = refl
  any_word (value.Reference r) p h = there_is os r (ltb-true r (length os) h)

  met_word : (w : Want) (v : Value) → value_meets files os w v ≡ true → is_value_in (length os) v ≡ true
      → word_meets files os w (word_of v) ≡ true
  met_word AnyWord v p h = refl
  met_word AnInt v p h = refl
  met_word AnyReference v p h = any_word v p h
  met_word (AReference t) v p h = below_word t v p
  met_word (AReceiver class) v p h = below_word (ClassType class) v p
  met_word (AnOwner class) v p h = below_word (ClassType class) v p
  met_word AnArray v p h = with_word is_array_type v p
  met_word AByteArray v p h = with_word is_byte_array_type v p

  -- ---- what is popped

  abbrev pub Typed : List VerificationType → List Value → Type 0
  Typed ts vs = Pairwise (has_type files os) ts vs

  pub popped_depth : (ws : List Want) (ts : List VerificationType) (vs : List Value) → Typed ts vs
      → pops_meet (type_meets files) ws ts ≡ true → length ws ≤ length vs
  popped_depth [] ts vs f e = omega arith
  popped_depth (w ∷ ws) [] vs f e = absurd (false≢true e)
  popped_depth (w ∷ ws) (t ∷ ts) [] f e = absurd f
  popped_depth (w ∷ ws) (t ∷ ts) (v ∷ vs) f e = omega (arith, popped_depth ws ts vs f.1 (and_parts _ _ e).1)

  pub popped_in : (ws : List Want) (ts : List VerificationType) (vs : List Value) → Typed ts vs → pops_meet (type_meets files) ws ts ≡ true
      → AllByRecursion (λ v. is_value_in (length os) v ≡ true) (take (length ws) vs)
  popped_in [] ts vs f e = tt
  popped_in (w ∷ ws) [] vs f e = absurd (false≢true e)
  popped_in (w ∷ ws) (t ∷ ts) [] f e = absurd f
  popped_in (w ∷ ws) (t ∷ ts) (v ∷ vs) f e =
      let q = and_parts _ _ e in (wanted_in w t v q.0 f.0, popped_in ws ts vs f.1 q.1)

  -- ---- what is read

  read_below : (w : Want) (ts : List VerificationType) (k : ℕ) → type_meets files w (slice_index_or ts k Unusable) ≡ true → k < length ts
  read_below w [] k e = absurd (false≢true (sym (unusable w) ∙ e))
  read_below w (t ∷ ts) zero e = omega arith
  read_below w (t ∷ ts) (suc k) e = omega (arith, read_below w ts k e)

  pub reads_below : (rs : List (ℕ × Want)) (ts : List VerificationType) → reads_meet (type_meets files) over_types rs ts ≡ true
      → AllByRecursion (λ (r : ℕ × Want). r.0 < length ts) rs
  reads_below [] ts e = tt
  reads_below (r ∷ rs) ts e = let q = and_parts _ _ e in (read_below r.1 ts r.0 q.0, reads_below rs ts q.1)

  module _ (rooted : Rooted files) where
    -- what is as wanted by its type is so by its word
    typed_word : (w : Want) (t : VerificationType) (v : Value) → type_meets files w t ≡ true → has_type files os t v ≡ true
        → word_meets files os w (word_of v) ≡ true
    typed_word w t v p h = met_word w v (meets_both files rooted os w t v p h) (wanted_in w t v p h)

    popped_words : (ws : List Want) (ts : List VerificationType) (vs : List Value) → Typed ts vs
        → pops_meet (type_meets files) ws ts ≡ true → pops_meet (word_meets files os) ws (map word_of vs) ≡ true
    popped_words [] ts vs f e = refl
    popped_words (w ∷ ws) [] vs f e = absurd (false≢true e)
    popped_words (w ∷ ws) (t ∷ ts) [] f e = absurd f
    popped_words (w ∷ ws) (t ∷ ts) (v ∷ vs) f e =
        let q = and_parts _ _ e in and_from _ _ (typed_word w t v q.0 f.0) (popped_words ws ts vs f.1 q.1)

    read_words : (rs : List (ℕ × Want)) (ts : List VerificationType) (vs : List Value) → Typed ts vs
        → reads_meet (type_meets files) over_types rs ts ≡ true → reads_meet (word_meets files os) over_words rs (map word_of vs) ≡ true
    read_words [] ts vs f e = refl
    read_words (r ∷ rs) ts vs f e =
        let q = and_parts _ _ e in
        and_from _ _
        (subst (λ n. word_meets files os r.1 n ≡ true) (sym (map_index word_of vs r.0 value.Unset))
        (typed_word r.1 (slice_index_or ts r.0 Unusable) (slice_index_or vs r.0 value.Unset) q.0 (pair_get (has_type files os) ts vs Unusable value.Unset f refl r.0)))
        (read_words rs ts vs f q.1)

    -- ---- the one test

    under_count : (n : ℕ) (ts : List VerificationType) (vs : List Value) → Typed ts vs
        → length (drop n ts) ≡ length (drop n (map word_of vs))
    under_count n ts vs f =
        pair_length (has_type files os) _ _ (pair_drop (has_type files os) n ts vs f)
        ∙ (sym (length-map (drop n vs) word_of) ∙ ap length (sym (drop-map word_of n vs)))

    pub ready_words : (w : Wants) (max : ℕ) (ts : Slots VerificationType) (vs : Slots Value) → SlotsTyped files os ts vs
        → is_ready (type_meets files) over_types w max ts ≡ true
        → is_ready (word_meets files os) over_words w max (map_slots word_of vs) ≡ true
    ready_words w max ts vs f e =
        let a = and_parts _ _ e in
        let b = and_parts _ _ a.1 in
        let c = and_parts _ _ b.1 in
        and_from _ _ a.0
        (and_from _ _ (read_words w.reads ts.locals vs.locals f.locals b.0)
        (and_from _ _ (popped_words w.pops ts.stack vs.stack f.stack c.0)
        (subst (λ k. leb (k + w.grows) max ≡ true) (under_count (length w.pops) ts.stack vs.stack f.stack) c.1)))
