-- What instructions that access elements ask of arrays, and references of objects: so it is in each later world.
use Rattle.std.proofs.Common.{◌≡◌, refl, sym, ◌∙◌, ap, subst, ℕ, zero, suc, ◌≤◌, List, [], ◌∷◌, length, arith}
use Rattle.std.specs.Prelude.{◌+◌, Option, Some, None, Bool, true, false, ◌&&◌, ◌==◌, nat_lt, nat_le, slice_get, slice_index_or, drop, IsTrue}
use Rattle.std.specs.Option.{option_map, option_map_or}
use Rattle.std.proofs.lemmas.Bool.{false≢true, true≢false, and_parts, and_from, le-ltb}
use Rattle.std.proofs.lemmas.Option.{same_Some, none-some, get_or_from_slice_get, slice_get-map}
use Rattle.model.specs.declared.value.Value.{Value}
use Rattle.model.specs.declared.value.Value.TheVariants as value
use Rattle.model.specs.Arrays.{in_range, may_stand_in}
use Rattle.model.specs.Classes.{Program}
use Rattle.model.specs.Operands.{Slots, Wants, values, over_values, reads_meet, pops_meet}
use Rattle.model.specs.ReferenceTypes.{ReferenceType, ClassType}
use Rattle.model.specs.State.{ObjectOf, Instance, Primitives, References, Characters, type_of, types_of, World}
use Rattle.model.specs.Types.{OfType, Want, AnyWord, AnInt, AnyReference, AReference, AReceiver, AnOwner, AnArray, AByteArray, is_object_of, is_value_of, is_array_type, is_byte_array_type, is_value_with, value_meets}
use Rattle.model.specs.WellTyped.{Extends}
use Rattle.model.specs.Worlds.{no_object, object_at, elements_of, string_text, text_of}
use Rattle.run_laws.proofs.laws.Order.{has_type_more}
use Rattle.race_laws.proofs.racy_states.Shapes.{IsGrown, extends}

-- an index that is one of an array is so later, what could stand in an array can so later, an array that has elements has as many, and
-- a String that has a text has that
pub record KeepsArrays (files : Program) (world later : World) : Type 0 where
  pub ranges : (r index : ℕ) → IsTrue (in_range world r index) → IsTrue (in_range later r index)
  pub stores : (r : ℕ) (value : Value) → IsTrue (may_stand_in values files world (object_at world r) value)
      → IsTrue (may_stand_in values files later (object_at later r) value)
  pub counts : (r : ℕ) → (length (elements_of (object_at world r)) == 0) ≡ false
      → length (elements_of (object_at later r)) ≡ length (elements_of (object_at world r))
  pub texts : (r : ℕ) → (length (text_of (object_at world r)) == 0) ≡ false → string_text (object_at later r) ≡ string_text (object_at world r)

none_or : {A : Type 0} (xs : List A) (k : ℕ) (d : A) → slice_get xs k ≡ None → slice_index_or xs k d ≡ d
none_or [] k d e = refl
none_or (x ∷ xs) zero d e = absurd (none-some x (sym e))
none_or (x ∷ xs) (suc k) d e = none_or xs k d e

below_none : (n : ℕ) → IsTrue (nat_lt n 0) → ⊥
below_none n h = let low : 0 ≤ n = omega arith in false≢true (sym (le-ltb n 0 low) ∙ h)

-- each String that has a text has that
abbrev pub AreTextsKept : List (ObjectOf Value) → List (ObjectOf Value) → Type 0
AreTextsKept before after =
    (r : ℕ) (old : ObjectOf Value) → slice_get before r ≡ Some old
    → (new : ObjectOf Value) × ((slice_get after r ≡ Some new) × ((length (text_of old) == 0) ≡ false → string_text new ≡ string_text old))

-- each object is there, with as many elements as it had
abbrev pub AreLengthsKept : List (ObjectOf Value) → List (ObjectOf Value) → Type 0
AreLengthsKept before after =
    (r : ℕ) (old : ObjectOf Value) → slice_get before r ≡ Some old
    → (new : ObjectOf Value) × ((slice_get after r ≡ Some new) × (length (elements_of new) ≡ length (elements_of old)))

module _ (files : Program) (world later : World) (types : Extends (types_of world.heap) (types_of later.heap)) (lengths : AreLengthsKept world.heap later.heap)
    (texts : AreTextsKept world.heap later.heap) where
  instance_kept : (want : ReferenceType) (r : ℕ) (o : Option ReferenceType) → slice_get (types_of world.heap) r ≡ o → IsTrue (is_object_of files want o)
      → IsTrue (is_object_of files want (slice_get (types_of later.heap) r))
  instance_kept want r None e h = absurd (false≢true h)
  instance_kept want r (Some type) e h = subst (λ o. IsTrue (is_object_of files want o)) (sym (types.keeps r type e)) h

  value_kept : (want : ReferenceType) (v : Value) → IsTrue (is_value_of files (types_of world.heap) want v) → IsTrue (is_value_of files (types_of later.heap) want v)
  value_kept want value.Unset h = h
  value_kept want (value.Int bits) h = h
  value_kept want value.Null h = h
  value_kept want (value.Reference r) h = instance_kept want r (slice_get (types_of world.heap) r) refl h

  stands : (old new : ObjectOf Value) (v : Value) → type_of new ≡ type_of old → IsTrue (may_stand_in values files world old v)
      → IsTrue (may_stand_in values files later new v)
  stands (Instance class fields) new v e h = absurd (false≢true h)
  stands (Primitives of elements) new v e h = absurd (false≢true h)
  stands (Characters text) new v e h = absurd (false≢true h)
  stands (References of elements) (Instance class fields) v e h = absurd (cc)
  stands (References of elements) (Primitives other fewer) v e h = absurd (cc)
  stands (References of elements) (Characters text) v e h = absurd (cc)
  stands (References of elements) (References other fewer) v e h =
      let same : other ≡ of = cc in subst (λ k. IsTrue (is_value_of files (types_of later.heap) k v)) (sym same) (value_kept of v h)

  module _ (r : ℕ) (old : ObjectOf Value) (there : slice_get world.heap r ≡ Some old) where
    abbrev new : ObjectOf Value
    new = (lengths r old there).0

    new_there : slice_get later.heap r ≡ Some new
    new_there = (lengths r old there).1.0

    is_old : object_at world r ≡ old
    is_old = get_or_from_slice_get world.heap r old no_object there

    is_new : object_at later r ≡ new
    is_new = get_or_from_slice_get later.heap r new no_object new_there

    range_kept : (index : ℕ) → IsTrue (in_range world r index) → IsTrue (in_range later r index)
    range_kept index h =
        let same = ap (λ o. length (elements_of o)) is_new ∙ ((lengths r old there).1.1 ∙ sym (ap (λ o. length (elements_of o)) is_old)) in
        subst (λ n. IsTrue (nat_lt index n)) (sym same) h

    type_kept : type_of new ≡ type_of old
    type_kept =
        let was : slice_get (types_of world.heap) r ≡ Some (type_of old) = slice_get-map type_of world.heap r ∙ ap (λ o. option_map type_of o) there in
        let is : slice_get (types_of later.heap) r ≡ Some (type_of new) = slice_get-map type_of later.heap r ∙ ap (λ o. option_map type_of o) new_there in
        same_Some (type_of new) (type_of old) (sym is ∙ types.keeps r (type_of old) was)

    store_kept : (v : Value) → IsTrue (may_stand_in values files world (object_at world r) v) → IsTrue (may_stand_in values files later (object_at later r) v)
    store_kept v h =
        subst (λ o. IsTrue (may_stand_in values files later o v)) (sym is_new)
        (stands old new v type_kept (subst (λ o. IsTrue (may_stand_in values files world o v)) is_old h))

  range_by : (r index : ℕ) (o : Option (ObjectOf Value)) → slice_get world.heap r ≡ o → IsTrue (in_range world r index) → IsTrue (in_range later r index)
  range_by r index None e h =
      absurd (below_none index (subst (λ (o : ObjectOf Value). IsTrue (nat_lt index (length (elements_of o)))) (none_or world.heap r no_object e) h))
  range_by r index (Some old) e h = range_kept r old e index h

  store_by : (r : ℕ) (v : Value) (o : Option (ObjectOf Value)) → slice_get world.heap r ≡ o
      → IsTrue (may_stand_in values files world (object_at world r) v) → IsTrue (may_stand_in values files later (object_at later r) v)
  store_by r v None e h =
      absurd (false≢true (subst (λ o. IsTrue (may_stand_in values files world o v)) (none_or world.heap r no_object e) h))
  store_by r v (Some old) e h = store_kept r old e v h

  count_by : (r : ℕ) (o : Option (ObjectOf Value)) → slice_get world.heap r ≡ o → (length (elements_of (object_at world r)) == 0) ≡ false
      → length (elements_of (object_at later r)) ≡ length (elements_of (object_at world r))
  count_by r None e n = absurd (true≢false (sym (ap (λ (o : ObjectOf Value). length (elements_of o) == 0) (none_or world.heap r no_object e)) ∙ n))
  count_by r (Some old) e n =
      ap (λ o. length (elements_of o)) (is_new r old e) ∙ ((lengths r old e).1.1 ∙ sym (ap (λ o. length (elements_of o)) (is_old r old e)))

  text_by : (r : ℕ) (o : Option (ObjectOf Value)) → slice_get world.heap r ≡ o → (length (text_of (object_at world r)) == 0) ≡ false
      → string_text (object_at later r) ≡ string_text (object_at world r)
  text_by r None e n = absurd (true≢false (sym (ap (λ (o : ObjectOf Value). length (text_of o) == 0) (none_or world.heap r no_object e)) ∙ n))
  text_by r (Some old) e n =
      let x = texts r old e in
      ap string_text (get_or_from_slice_get later.heap r x.0 no_object x.1.0)
      ∙ (x.1.1 (ap (λ o. length (text_of o) == 0) (sym (is_old r old e)) ∙ n) ∙ sym (ap string_text (is_old r old e)))

  pub keeps_arrays : KeepsArrays files world later
  keeps_arrays =
      record {
        ranges = λ r index h. range_by r index (slice_get world.heap r) refl h;
        stores = λ r v h. store_by r v (slice_get world.heap r) refl h;
        counts = λ r n. count_by r (slice_get world.heap r) refl n;
        texts = λ r n. text_by r (slice_get world.heap r) refl n;
      }

-- so of a world that has grown
pub grown_keeps : (files : Program) (w v : World) → IsGrown w v → KeepsArrays files w v
grown_keeps files w v grown =
    keeps_arrays files w v (extends w.heap v.heap grown.objects) (λ r old e. let p = grown.objects r old e in (p.0, (p.1.0, p.1.1.size)))
    (λ r old e. let p = grown.objects r old e in (p.0, (p.1.0, p.1.1.text)))

-- ---- operands that are found are found later

module _ (files : Program) (os ps : List ReferenceType) (x : Extends os ps) where
  with_by : (test : ReferenceType → Bool) (r : ℕ) (o : Option ReferenceType) → slice_get os r ≡ o → option_map_or test o false ≡ true
      → option_map_or test (slice_get ps r) false ≡ true
  with_by test r None e q = absurd (false≢true q)
  with_by test r (Some t) e q = subst (λ o. option_map_or test o false ≡ true) (sym (x.keeps r t e)) q

  with_later : (test : ReferenceType → Bool) (v : Value) → is_value_with os test v ≡ true → is_value_with ps test v ≡ true
  with_later test value.Unset q = q
  with_later test (value.Int bits) q = q
  with_later test value.Null q = q
  with_later test (value.Reference r) q = with_by test r (slice_get os r) refl q

  meets_later : (w : Want) (v : Value) → value_meets files os w v ≡ true → value_meets files ps w v ≡ true
  meets_later AnyWord v q = q
  meets_later AnInt v q = q
  meets_later AnyReference v q = q
  meets_later (AReference type) v q = has_type_more files os ps x (OfType type) v q
  meets_later (AReceiver class) v q = has_type_more files os ps x (OfType (ClassType class)) v q
  meets_later (AnOwner class) v q = has_type_more files os ps x (OfType (ClassType class)) v q
  meets_later AnArray v q = with_later is_array_type v q
  meets_later AByteArray v q = with_later is_byte_array_type v q

  reads_later : (rs : List (ℕ × Want)) (locals : List Value) → reads_meet (value_meets files os) over_values rs locals ≡ true
      → reads_meet (value_meets files ps) over_values rs locals ≡ true
  reads_later [] locals q = q
  reads_later (r ∷ rs) locals q =
      let v = slice_index_or locals r.0 value.Unset in
      let here = and_parts (value_meets files os r.1 v) (reads_meet (value_meets files os) over_values rs locals) q in
      and_from (value_meets files ps r.1 v) (reads_meet (value_meets files ps) over_values rs locals) (meets_later r.1 v here.0) (reads_later rs locals here.1)

  pops_later : (ws : List Want) (stack : List Value) → pops_meet (value_meets files os) ws stack ≡ true → pops_meet (value_meets files ps) ws stack ≡ true
  pops_later [] stack q = q
  pops_later (w ∷ ws) [] q = q
  pops_later (w ∷ ws) (v ∷ vs) q =
      let here = and_parts (value_meets files os w v) (pops_meet (value_meets files os) ws vs) q in
      and_from (value_meets files ps w v) (pops_meet (value_meets files ps) ws vs) (meets_later w v here.0) (pops_later ws vs here.1)

  pub finds_later : (w : Wants) (max : ℕ) (s : Slots Value) → values.finds files os w max s ≡ true → values.finds files ps w max s ≡ true
  finds_later w max s q =
      let room = nat_le (length (drop (length w.pops) s.stack) + w.grows) max in
      let pops = pops_meet (value_meets files os) w.pops s.stack in
      let reads = reads_meet (value_meets files os) over_values w.reads s.locals in
      let more_pops = pops_meet (value_meets files ps) w.pops s.stack in
      let more_reads = reads_meet (value_meets files ps) over_values w.reads s.locals in
      let a = and_parts w.allowed (reads && (pops && room)) q in
      let b = and_parts reads (pops && room) a.1 in
      let c = and_parts pops room b.1 in
      and_from w.allowed (more_reads && (more_pops && room)) a.0
      (and_from more_reads (more_pops && room) (reads_later w.reads s.locals b.0) (and_from more_pops room (pops_later w.pops s.stack c.0) c.1))
