-- Lists and values by their words.
use Rattle.std.proofs.Common.{◌≡◌, ℕ, zero, suc, List, [], ◌∷◌, ◌++◌, map, length, take, drop, replicate, reverse, Bool, true, false, refl, sym, ap, ◌∙◌}
use mathlib.Core.List.{reverse_aux}
use Rattle.std.specs.Prelude.{slice_index_or, slice_set}
use Rattle.std.proofs.lemmas.Bool.{false≢true}
use Rattle.std.proofs.lemmas.List.{take-map, drop-map, map-append}
use Rattle.model.specs.declared.value.Value.{Value}
use Rattle.model.specs.declared.value.Value.TheVariants as value
use Rattle.model.specs.Classes.{Program}
use Rattle.model.specs.ReferenceTypes.{ReferenceType}
use Rattle.model.specs.Types.{Want, AnyWord, AnInt, AnyReference, AReference, AReceiver, AnOwner, AnArray, AByteArray, value_meets, is_value_below, is_value_with}
use Rattle.model.specs.Operands.{Slots, Wants, over_values, over_words, operands, under, word_of, reference_of, word_reference}
use Rattle.model.specs.Rows.{Out, Copy, Number, Null, Row, out, written, row_wants, after_row}
use Rattle.model.specs.Words.{map_slots}

module _ {A B : Type 0} (f : A → B) where
  pub map_index : (xs : List A) (k : ℕ) (d : A) → slice_index_or (map f xs) k (f d) ≡ f (slice_index_or xs k d)
  map_index [] k d = refl
  map_index (x ∷ xs) zero d = refl
  map_index (x ∷ xs) (suc k) d = map_index xs k d

  pub map_set : (xs : List A) (k : ℕ) (x : A) → slice_set (map f xs) k (f x) ≡ map f (slice_set xs k x)
  map_set [] k x = refl
  map_set (y ∷ xs) zero x = refl
  map_set (y ∷ xs) (suc k) x = ap (λ l. f y ∷ l) (map_set xs k x)

  pub map_copies : (n : ℕ) (x : A) → replicate n (f x) ≡ map f (replicate n x)
  map_copies zero x = refl
  map_copies (suc n) x = ap (λ l. f x ∷ l) (map_copies n x)

  pub map_same : {C : Type 0} (g : C → B) (h : C → A) (cs : List C) → ((c : C) → g c ≡ f (h c)) → map g cs ≡ map f (map h cs)
  map_same g h [] e = refl
  map_same g h (c ∷ cs) e = ap (λ b. b ∷ map g cs) (e c) ∙ ap (λ l. f (h c) ∷ l) (map_same g h cs e)

  map_onto : (xs ys : List A) → reverse_aux (map f xs) (map f ys) ≡ map f (reverse_aux xs ys)
  map_onto [] ys = refl
  map_onto (x ∷ xs) ys = map_onto xs (x ∷ ys)

  pub map_reversed : (xs : List A) → reverse (map f xs) ≡ map f (reverse xs)
  map_reversed xs = map_onto xs []

-- ---- what is no int is by its word what it refers to

pub below_referent : (files : Program) (os : List ReferenceType) (t : ReferenceType) (v : Value) → is_value_below files os t v ≡ true
    → word_reference (word_of v) ≡ reference_of v
below_referent files os t value.Unset e = refl
below_referent files os t (value.Int bits) e = absurd (false≢true e)
below_referent files os t value.Null e = refl
below_referent files os t (value.Reference r) e = refl

pub with_referent : (os : List ReferenceType) (test : ReferenceType → Bool) (v : Value) → is_value_with os test v ≡ true
    → word_reference (word_of v) ≡ reference_of v
with_referent os test value.Unset e = refl
with_referent os test (value.Int bits) e = absurd (false≢true e)
with_referent os test value.Null e = refl
with_referent os test (value.Reference r) e = refl

abbrev pub is_object_want : Want → Bool
is_object_want AnyWord = false
is_object_want AnInt = false
is_object_want AnyReference = false
is_object_want (AReference want) = true
is_object_want (AReceiver class) = true
is_object_want (AnOwner class) = true
is_object_want AnArray = true
is_object_want AByteArray = true

pub wanted_referent : (files : Program) (os : List ReferenceType) (want : Want) (v : Value) → is_object_want want ≡ true
    → value_meets files os want v ≡ true → word_reference (word_of v) ≡ reference_of v
wanted_referent files os AnyWord v w e = absurd (false≢true w)
wanted_referent files os AnInt v w e = absurd (false≢true w)
wanted_referent files os AnyReference v w e = absurd (false≢true w)
wanted_referent files os (AReference want) v w e = below_referent files os want v e
wanted_referent files os (AReceiver class) v w e = below_referent files os _ v e
wanted_referent files os (AnOwner class) v w e = below_referent files os _ v e
wanted_referent files os AnArray v w e = with_referent os _ v e
wanted_referent files os AByteArray v w e = with_referent os _ v e

-- ---- rows

pub operands_words : (w : Wants) (s : Slots Value) → operands over_words w (map_slots word_of s) ≡ map word_of (operands over_values w s)
operands_words w s =
    ap (λ l. l ++ take (length w.pops) (map word_of s.stack)) (map_same word_of _ (λ r. slice_index_or s.locals r.0 value.Unset) w.reads (λ r. map_index word_of s.locals r.0 value.Unset))
    ∙ (ap (λ l. map word_of (map (λ r. slice_index_or s.locals r.0 value.Unset) w.reads) ++ l) (take-map word_of (length w.pops) s.stack)
    ∙ sym (map-append word_of (map (λ r. slice_index_or s.locals r.0 value.Unset) w.reads) (take (length w.pops) s.stack)))

pub under_words : (w : Wants) (s : Slots Value) → under w (map_slots word_of s) ≡ map word_of (under w s)
under_words w s = drop-map word_of (length w.pops) s.stack

out_words : (ops : List Value) (o : Out) → out over_words (map word_of ops) o ≡ word_of (out over_values ops o)
out_words ops (Copy k) = map_index word_of ops k value.Unset
out_words ops (Number f) = refl
out_words ops Null = refl

written_words : (ops : List Value) (ws : List (ℕ × Out)) (ls : List Value)
    → written over_words (map word_of ops) ws (map word_of ls) ≡ map word_of (written over_values ops ws ls)
written_words ops [] ls = refl
written_words ops (w ∷ ws) ls =
    ap (λ x. written over_words (map word_of ops) ws (slice_set (map word_of ls) w.0 x)) (out_words ops w.1)
    ∙ (ap (λ l. written over_words (map word_of ops) ws l) (map_set word_of ls w.0 _)
    ∙ written_words ops ws _)

-- every local instruction does on words what it does on values
pub row_words : (r : Row) (s : Slots Value) → after_row over_words r (map_slots word_of s) ≡ map_slots word_of (after_row over_values r s)
row_words r s =
    let ops = operands over_values (row_wants r) s in
    let e = operands_words (row_wants r) s in
    let ls = ap (λ o. written over_words o r.writes (map word_of s.locals)) e ∙ written_words ops r.writes s.locals in
    let st =
    ap (λ o. map (out over_words o) r.pushes ++ drop (length r.pops) (map word_of s.stack)) e
    ∙ (ap (λ l. l ++ drop (length r.pops) (map word_of s.stack)) (map_same word_of _ (out over_values ops) r.pushes (out_words ops))
    ∙ (ap (λ l. map word_of (map (out over_values ops) r.pushes) ++ l) (drop-map word_of (length r.pops) s.stack)
    ∙ sym (map-append word_of (map (out over_values ops) r.pushes) (drop (length r.pops) s.stack)))) in
    λ i. record { locals = ls i; stack = st i }
