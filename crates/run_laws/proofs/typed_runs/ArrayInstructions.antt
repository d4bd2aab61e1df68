-- Instructions on arrays: each brings about what its typing says.
use Rattle.std.proofs.Common.{◌≡◌, ℕ, zero, suc, List, [], ◌∷◌, ◌++◌, length, take, Bool, true, false, Some, refl, sym, subst}
use Rattle.std.specs.Prelude.{slice_get, slice_index_or, replicate}
use Rattle.std.specs.Option.{option_map_or}
use Rattle.std.specs.List.{list_all}
use Rattle.std.proofs.lemmas.Bool.{false≢true, and_from}
use Rattle.std.proofs.lemmas.Option.{get_or_from_slice_get}
use Rattle.model.specs.declared.event.Event.{Event}
use Rattle.model.specs.declared.value.Value.{Value}
use Rattle.model.specs.declared.value.Value.TheVariants as value
use Rattle.model.specs.declared.instr.ArrayKind.{ArrayKind}
use Rattle.model.specs.declared.instr.ArrayKind.TheVariants as array_kind
use Rattle.model.specs.Classes.{Program}
use Rattle.model.specs.ReferenceTypes.{Primitive, Char, Short, Int, ReferenceType, ClassType, PrimitiveArray, ReferenceArray, is_assignable}
use Rattle.model.specs.Types.{VerificationType, Unusable, IntType, NullType, OfType, Uninitialised, UninitialisedThis, Want, AnyWord, AnInt, AReference, AByteArray, is_byte_array_type, is_int_value, is_of, type_meets, value_meets, is_value_below}
use Rattle.model.specs.DescribedTypes.{made_type, component_type}
use Rattle.model.specs.Operands.{values, over_types, operands, under}
use Rattle.model.specs.State.{ObjectOf, Instance, Primitives, References, type_of, types_of, Frame, World, Characters}
use Rattle.model.specs.Outcomes.{OutcomeOf, Makes, Free}
use Rattle.model.specs.Worlds.{allocated, object_at, no_object, with_object, elements_of, with_element, kept_value}
use Rattle.model.specs.Sites.{Site, pushing, operand, int_operand}
use Rattle.model.specs.Step.{ops_of}
use Rattle.model.specs.Objects.{any_object}
use Rattle.model.specs.Arrays.{is_negative, made_array, array_meaning, primitive_array_meaning, reference_array_meaning, array_length_meaning, in_range, at_index, element_at, load_meaning, an_int, stored, kept_by, store_int_meaning, may_stand_in, if_storable, store_reference_meaning, load_of, store_of}
use Rattle.model.specs.WellTyped.{has_type, is_object_typed}
use Rattle.run_laws.proofs.laws.Lists.{Pairwise, pair_get}
use Rattle.run_laws.proofs.laws.Order.{stack_above}
use Rattle.run_laws.proofs.laws.Rows.{ready_popped, operands_both}
use Rattle.run_laws.proofs.typed_runs.Objects.{all_index, all_replicate, all_set, nulls_typed, object_found, added_below}
use Rattle.run_laws.proofs.typed_runs.Changes.{OutcomeTyped}
use Rattle.run_laws.proofs.typed_runs.WorldChanges.{Keeps, self_keeps, allocated_keeps, object_keeps}
use Rattle.run_laws.proofs.typed_runs.Subtypes.{made_above, made_monotone, instance_below}
use Rattle.run_laws.proofs.typed_runs.Going.{Here, Allows, slots_here, not_null_any, met, pushes}
use Rattle.run_laws.proofs.typed_runs.Instructions.{Does, at_typed, at_there}

-- ---- objects as arrays

-- it holds no references
abbrev holds_ints : ReferenceType → Bool
holds_ints (ClassType c) = true
holds_ints (PrimitiveArray of) = true
holds_ints (ReferenceArray of) = false

with_element_same : (i : ℕ) (v : Value) (o : ObjectOf Value) → type_of (with_element i v o) ≡ type_of o
with_element_same i v (Instance class fields) = refl
with_element_same i v (Primitives of elements) = refl
with_element_same i v (References of elements) = refl
with_element_same i v (Characters text) = refl

-- an object that is there and holds no references
record HoldsInts (heap : List (ObjectOf Value)) (r : ℕ) : Type 0 where
  object : ObjectOf Value
  there : slice_get heap r ≡ Some object
  ints : holds_ints (type_of object) ≡ true

holds_more : (heap : List (ObjectOf Value)) (o : ObjectOf Value) (r : ℕ) → HoldsInts heap r → HoldsInts (o ∷ heap) (suc r)
holds_more heap o r h = record { object = h.object; there = h.there; ints = h.ints }

found_ints : (test : ReferenceType → Bool) → ((u : ReferenceType) → test u ≡ true → holds_ints u ≡ true) → (heap : List (ObjectOf Value))
    (r : ℕ) → option_map_or test (slice_get (types_of heap) r) false ≡ true → HoldsInts heap r
found_ints test only [] r e = absurd (false≢true e)
found_ints test only (o ∷ heap) zero e = record { object = o; there = refl; ints = only (type_of o) e }
found_ints test only (o ∷ heap) (suc r) e = holds_more heap o r (found_ints test only heap r e)

module _ (files : Program) (os : List ReferenceType) where
  ints_of : (o : ObjectOf Value) → holds_ints (type_of o) ≡ true → is_object_typed files os o ≡ true
      → list_all is_int_value (elements_of o) ≡ true
  ints_of (Instance class fields) n h = refl
  ints_of (Primitives of elements) n h = h
  ints_of (References of elements) n h = absurd (false≢true n)
  ints_of (Characters text) n h = refl

  kept_typed : (i : ℕ) (v : Value) (o : ObjectOf Value) → holds_ints (type_of o) ≡ true → is_object_typed files os o ≡ true
      → is_object_typed files os (with_element i (kept_by values o v) o) ≡ true
  kept_typed i v (Instance class fields) n h = h
  kept_typed i v (Primitives of elements) n h = all_set is_int_value elements i (kept_value values of v) h refl
  kept_typed i v (References of elements) n h = absurd (false≢true n)
  kept_typed i v (Characters text) n h = h

below_primitive : (files : Program) (p : Primitive) (u : ReferenceType) → is_assignable files u (PrimitiveArray p) ≡ true
    → holds_ints u ≡ true
below_primitive files p (ClassType c) e = absurd (false≢true e)
below_primitive files p (PrimitiveArray of) e = refl
below_primitive files p (ReferenceArray of) e = absurd (false≢true e)

byte_holds : (u : ReferenceType) → is_byte_array_type u ≡ true → holds_ints u ≡ true
byte_holds (ClassType c) e = absurd (false≢true e)
byte_holds (PrimitiveArray of) e = refl
byte_holds (ReferenceArray of) e = absurd (false≢true e)

-- the second of two operands is of its type
second_typed : (accepts : Want → VerificationType → Bool) (R : VerificationType → Value → Bool) (a b : Want) (xs : List VerificationType)
    (vs : List Value) → Pairwise accepts (a ∷ b ∷ []) xs → Pairwise R xs vs
    → R (slice_index_or xs 1 NullType) (slice_index_or vs 1 value.Unset) ≡ true
second_typed accepts R a b [] vs p q = absurd p
second_typed accepts R a b (x ∷ []) vs p q = absurd p.1
second_typed accepts R a b (x ∷ y ∷ xs) [] p q = absurd q
second_typed accepts R a b (x ∷ y ∷ xs) (u ∷ []) p q = absurd q.1
second_typed accepts R a b (x ∷ y ∷ xs) (u ∷ v ∷ vs) p q = q.1.0

module _ (files : Program) (event : Event) (w : World) (f : Frame) (site : Site) (h : Here files event.thread w f site) where
  same : Keeps files w w
  same = self_keeps files w h.fits

  -- ---- newarray, anewarray

  made_typed : (type : ReferenceType) (array : List Value → ObjectOf Value) (first : Value)
      → ((n : ℕ) (os : List ReferenceType) → is_object_typed files os (array (replicate n first)) ≡ true)
      → ((n : ℕ) → type_of (array (replicate n first)) ≡ type)
      → (a : Allows files f h.ready.stopped.stands site (array_meaning values files site type array first)) (n : ℕ) (b : Bool)
      → OutcomeTyped files event.thread w f (made_array values b site.next n array first w
      f.place.slots (under (array_meaning values files site type array first).wants f.place.slots))
  made_typed type array first typed is a n true = tt
  made_typed type array first typed is a n false =
      let o = array (replicate n first) in
      let os = types_of (w.heap ++ o ∷ []) in
      pushes files event.thread w f site h _ a (OfType (made_type files type) ∷ []) _ a.leads.0 (Makes n) (allocated w o) (value.Reference (length w.heap) ∷ [])
      (allocated_keeps files w h.fits o (typed n os))
      (and_from _ _ (stack_above files h.linked.rooted os (OfType (type_of o)) (OfType (made_type files type)) (value.Reference (length w.heap)) (subst (λ u. is_assignable files u (made_type files type) ≡ true) (sym (is n)) (made_above files h.linked type)) (added_below files w.heap h.fits.heap o)) refl)

  pub primitive_array_typed : (of : Primitive) → Allows files f h.ready.stopped.stands site (primitive_array_meaning values files site of)
      → Does files event w f (primitive_array_meaning values files site of)
  primitive_array_typed of a =
      let n = int_operand values (ops_of values (primitive_array_meaning values files site of) f.place.slots) 0 in
      made_typed (PrimitiveArray of) (λ elements. Primitives of elements) (value.Int 0) (λ n os. all_replicate is_int_value n (value.Int 0) refl) (λ n. refl) a n (is_negative n)

  pub reference_array_typed : (of : ReferenceType)
      → Allows files f h.ready.stopped.stands site (reference_array_meaning values files site of)
      → Does files event w f (reference_array_meaning values files site of)
  reference_array_typed of a =
      let n = int_operand values (ops_of values (reference_array_meaning values files site of) f.place.slots) 0 in
      made_typed (ReferenceArray of) (λ elements. References of elements) value.Null (λ n os. nulls_typed files os of n) (λ n. refl) a n (is_negative n)

  -- ---- arraylength

  pub array_length_typed : Allows files f h.ready.stopped.stands site (array_length_meaning values site)
      → Does files event w f (array_length_meaning values site)
  array_length_typed a =
      not_null_any files event.thread w f site h (operand values (ops_of values (array_length_meaning values site) f.place.slots) 0)
      (λ r. pushing site.next (value.Int (length (elements_of (object_at w r))) ∷ []) w f.place.slots (under (array_length_meaning values site).wants f.place.slots))
      (λ r e. pushes files event.thread w f site h _ a (IntType ∷ []) _ a.leads.0 Free w (value.Int (length (elements_of (object_at w r))) ∷ []) same refl)

  -- ---- loads

  at_index_typed : (b : Bool) (o : OutcomeOf Value) → OutcomeTyped files event.thread w f o
      → OutcomeTyped files event.thread w f (at_index b o)
  at_index_typed true o k = k
  at_index_typed false o k = tt

  -- what is wanted is an array that holds no references
  WantsInts : Want → Type 0
  WantsInts want = (r : ℕ) → value_meets files (types_of w.heap) want (value.Reference r) ≡ true → HoldsInts w.heap r

  primitive_ints : (p : Primitive) → WantsInts (AReference (PrimitiveArray p))
  unfolding WantsInts
  primitive_ints p r e =
      let o = object_found files w.heap r (PrimitiveArray p) e in
      record { object = o.0; there = o.1; ints = below_primitive files p (type_of o.0) o.2 }

  byte_ints : WantsInts AByteArray
  unfolding WantsInts
  byte_ints r e = found_ints is_byte_array_type byte_holds w.heap r e

  ints_at : (r : ℕ) → HoldsInts w.heap r → holds_ints (type_of (object_at w r)) ≡ true
  ints_at r k = subst (λ o. holds_ints (type_of o) ≡ true) (sym (get_or_from_slice_get w.heap r k.object no_object k.there)) k.ints

  object_here : (r : ℕ) → is_object_typed files (types_of w.heap) (object_at w r) ≡ true
  object_here r = at_typed files (types_of w.heap) w.heap r h.fits.heap

  load_int_typed : (want : Want) → WantsInts want
      → Allows files f h.ready.stopped.stands site (load_meaning values site want (value.Int 0) an_int)
      → Does files event w f (load_meaning values site want (value.Int 0) an_int)
  unfolding WantsInts
  load_int_typed want ints a =
      let os = types_of w.heap in
      let m = load_meaning values site want (value.Int 0) an_int in
      let ops = ops_of values m f.place.slots in
      let i = int_operand values ops 0 in
      not_null_any files event.thread w f site h (operand values ops 1)
      (λ r. at_index (in_range w r i) (pushing site.next (element_at (value.Int 0) w r i ∷ []) w f.place.slots (under m.wants f.place.slots)))
      (λ r e.
      let k = ints r (subst (λ v. value_meets files os want v ≡ true) e (met files event.thread w f site h _ a 1)) in
      at_index_typed (in_range w r i) (pushing site.next (element_at (value.Int 0) w r i ∷ []) w f.place.slots (under m.wants f.place.slots))
      (pushes files event.thread w f site h _ a (IntType ∷ []) _ a.leads.0 Free w (element_at (value.Int 0) w r i ∷ []) same
      (and_from _ _ (all_index is_int_value (elements_of (object_at w r)) i (value.Int 0) (ints_of files os (object_at w r) (ints_at r k) (object_here r)) refl) refl)))

  loaded_typed : (b : ReferenceType) (o : ObjectOf Value) (i : ℕ) → is_assignable files (type_of o) (ReferenceArray b) ≡ true
      → is_object_typed files (types_of w.heap) o ≡ true
      → has_type files (types_of w.heap) (OfType (made_type files b)) (slice_index_or (elements_of o) i value.Null) ≡ true
  loaded_typed b (Instance class fields) i e q = absurd (false≢true e)
  loaded_typed b (Primitives of elements) i e q = absurd (false≢true e)
  loaded_typed b (References of elements) i e q =
      stack_above files h.linked.rooted (types_of w.heap) (OfType (made_type files of)) (OfType (made_type files b)) (slice_index_or elements i value.Null) (made_monotone files h.linked of b e)
      (all_index (has_type files (types_of w.heap) (OfType (made_type files of))) elements i value.Null q refl)
  loaded_typed b (Characters text) i e q = absurd (false≢true e)

  component_typed : (type : VerificationType) (r i : ℕ) → is_of files (ReferenceArray any_object) type ≡ true
      → has_type files (types_of w.heap) type (value.Reference r) ≡ true
      → has_type files (types_of w.heap) (component_type files type) (element_at value.Null w r i) ≡ true
  component_typed Unusable r i e q = absurd (false≢true e)
  component_typed IntType r i e q = absurd (false≢true e)
  component_typed NullType r i e q = absurd (false≢true q)
  component_typed (OfType (ClassType c)) r i e q = absurd (false≢true e)
  component_typed (OfType (PrimitiveArray of)) r i e q = absurd (false≢true e)
  component_typed (OfType (ReferenceArray b)) r i e q =
      let o = object_found files w.heap r (ReferenceArray b) q in
      loaded_typed b (object_at w r) i (subst (λ x. is_assignable files (type_of x) (ReferenceArray b) ≡ true) (sym (get_or_from_slice_get w.heap r o.0 no_object o.1)) o.2) (object_here r)
  component_typed (Uninitialised at c) r i e q = absurd (false≢true e)
  component_typed (UninitialisedThis c) r i e q = absurd (false≢true e)

  load_reference_typed : Allows files f h.ready.stopped.stands site (load_of values files site array_kind.Reference)
      → Does files event w f (load_of values files site array_kind.Reference)
  load_reference_typed a =
      let os = types_of w.heap in
      let m = load_of values files site array_kind.Reference in
      let ts = h.ready.stopped.stands.type.slots in
      let ops = ops_of values m f.place.slots in
      let i = int_operand values ops 0 in
      let array = slice_index_or (operands over_types m.wants ts) 1 NullType in
      let popped = ready_popped (type_meets files) over_types m.wants site.body.code.max_stack ts a.finds in
      let typed = second_typed (type_meets files) (has_type files os) AnInt (AReference (ReferenceArray any_object)) (take 2 ts.stack) (take 2 f.place.slots.stack) popped (operands_both files h.linked.rooted os m.wants ts f.place.slots (slots_here files event.thread w f site h)) in
      let wanted = pair_get (type_meets files) (AnInt ∷ AReference (ReferenceArray any_object) ∷ []) (take 2 ts.stack) AnyWord NullType popped refl 1 in
      not_null_any files event.thread w f site h (operand values ops 1)
      (λ r. at_index (in_range w r i) (pushing site.next (element_at value.Null w r i ∷ []) w f.place.slots (under m.wants f.place.slots)))
      (λ r e.
      at_index_typed (in_range w r i) (pushing site.next (element_at value.Null w r i ∷ []) w f.place.slots (under m.wants f.place.slots))
      (pushes files event.thread w f site h _ a (component_type files array ∷ []) _ a.leads.0 Free w (element_at value.Null w r i ∷ []) same
      (and_from _ _ (component_typed array r i wanted (subst (λ v. has_type files os array v ≡ true) e typed)) refl)))

  pub load_typed : (kind : ArrayKind) → Allows files f h.ready.stopped.stands site (load_of values files site kind)
      → Does files event w f (load_of values files site kind)
  load_typed array_kind.Int a = load_int_typed (AReference (PrimitiveArray Int)) (primitive_ints Int) a
  load_typed array_kind.Reference a = load_reference_typed a
  load_typed array_kind.ByteOrBoolean a = load_int_typed AByteArray byte_ints a
  load_typed array_kind.Char a = load_int_typed (AReference (PrimitiveArray Char)) (primitive_ints Char) a
  load_typed array_kind.Short a = load_int_typed (AReference (PrimitiveArray Short)) (primitive_ints Short) a

  -- ---- stores

  store_int_typed : (want : Want) → WantsInts want → Allows files f h.ready.stopped.stands site (store_int_meaning values site want)
      → Does files event w f (store_int_meaning values site want)
  unfolding WantsInts
  store_int_typed want ints a =
      let os = types_of w.heap in
      let m = store_int_meaning values site want in
      let ops = ops_of values m f.place.slots in
      let i = int_operand values ops 1 in
      let v = operand values ops 0 in
      not_null_any files event.thread w f site h (operand values ops 2)
      (λ r. at_index (in_range w r i) (stored site.next w r i (kept_by values (object_at w r) v) f.place.slots (under m.wants f.place.slots)))
      (λ r e.
      let k = ints r (subst (λ v. value_meets files os want v ≡ true) e (met files event.thread w f site h _ a 2)) in
      let new = with_element i (kept_by values (object_at w r) v) (object_at w r) in
      at_index_typed (in_range w r i) (stored site.next w r i (kept_by values (object_at w r) v) f.place.slots (under m.wants f.place.slots))
      (pushes files event.thread w f site h _ a [] _ a.leads.0 Free (with_object w r new) []
      (object_keeps files w h.fits r (object_at w r) new (at_there w.heap r k.object k.there) (with_element_same i (kept_by values (object_at w r) v) (object_at w r)) (kept_typed files os i v (object_at w r) (ints_at r k) (object_here r)))
      refl))

  storable_typed : (o : ObjectOf Value) (i : ℕ) (v : Value) → may_stand_in values files w o v ≡ true
      → is_object_typed files (types_of w.heap) o ≡ true → is_object_typed files (types_of w.heap) (with_element i v o) ≡ true
  storable_typed (Instance class fields) i v e q = q
  storable_typed (Primitives of elements) i v e q = absurd (false≢true e)
  storable_typed (References of elements) i v e q =
      all_set (has_type files (types_of w.heap) (OfType (made_type files of))) elements i v q (instance_below files h.linked (types_of w.heap) of v e)
  storable_typed (Characters text) i v e q = absurd (false≢true e)

  storing : (a : Allows files f h.ready.stopped.stands site (store_reference_meaning values files site)) (r i : ℕ) (v : Value)
      (o : ObjectOf Value) → slice_get w.heap r ≡ Some o → (b : Bool) → may_stand_in values files w (object_at w r) v ≡ b
      → OutcomeTyped files event.thread w f (if_storable
      b (stored site.next w r i v f.place.slots (under (store_reference_meaning values files site).wants f.place.slots)))
  storing a r i v o there true e =
      pushes files event.thread w f site h _ a [] _ a.leads.0 Free (with_object w r (with_element i v (object_at w r))) []
      (object_keeps files w h.fits r (object_at w r) (with_element i v (object_at w r)) (at_there w.heap r o there) (with_element_same i v (object_at w r)) (storable_typed (object_at w r) i v e (object_here r)))
      refl
  storing a r i v o there false e = tt

  store_reference_typed : Allows files f h.ready.stopped.stands site (store_reference_meaning values files site)
      → Does files event w f (store_reference_meaning values files site)
  store_reference_typed a =
      let os = types_of w.heap in
      let m = store_reference_meaning values files site in
      let ops = ops_of values m f.place.slots in
      let i = int_operand values ops 1 in
      let v = operand values ops 0 in
      not_null_any files event.thread w f site h (operand values ops 2)
      (λ r. at_index (in_range w r i) (if_storable (may_stand_in values files w (object_at w r) v) (stored site.next w r i v f.place.slots (under m.wants f.place.slots))))
      (λ r e.
      let o = object_found files w.heap r (ReferenceArray any_object) (subst (λ u. is_value_below files os (ReferenceArray any_object) u ≡ true) e (met files event.thread w f site h _ a 2)) in
      at_index_typed (in_range w r i) (if_storable (may_stand_in values files w (object_at w r) v) (stored site.next w r i v f.place.slots (under m.wants f.place.slots)))
      (storing a r i v o.0 o.1 (may_stand_in values files w (object_at w r) v) refl))

  pub store_typed : (kind : ArrayKind) → Allows files f h.ready.stopped.stands site (store_of values files site kind)
      → Does files event w f (store_of values files site kind)
  store_typed array_kind.Int a = store_int_typed (AReference (PrimitiveArray Int)) (primitive_ints Int) a
  store_typed array_kind.Reference a = store_reference_typed a
  store_typed array_kind.ByteOrBoolean a = store_int_typed AByteArray byte_ints a
  store_typed array_kind.Char a = store_int_typed (AReference (PrimitiveArray Char)) (primitive_ints Char) a
  store_typed array_kind.Short a = store_int_typed (AReference (PrimitiveArray Short)) (primitive_ints Short) a
