-- Instructions on arrays by their words.
use Rattle.std.proofs.Common.{◌≡◌, ℕ, suc, List, ◌∷◌, map, length, replicate, Bool, true, false, nat_lt, Some, refl, ap, ◌∙◌}
use Rattle.std.specs.Prelude.{slice_get, slice_index_or}
use Rattle.std.proofs.lemmas.List.{length-map}
use Rattle.model.specs.declared.value.Value.{Value}
use Rattle.model.specs.declared.value.Value.TheVariants as value
use Rattle.model.specs.declared.instr.ArrayKind.{ArrayKind}
use Rattle.model.specs.declared.instr.ArrayKind.TheVariants as array_kind
use Rattle.model.specs.Classes.{Program}
use Rattle.model.specs.ReferenceTypes.{Primitive, ReferenceType, PrimitiveArray, ReferenceArray}
use Rattle.model.specs.Types.{VerificationType, Want, AReference, value_meets}
use Rattle.model.specs.Operands.{Slots, words, values, word_of}
use Rattle.model.specs.State.{ObjectOf, Instance, Primitives, References, types_of, World, Characters}
use Rattle.model.specs.Outcomes.{Free, Makes, OutcomeOf, Goes}
use Rattle.model.specs.Worlds.{allocated, object_at, with_object, elements_of, with_element}
use Rattle.model.specs.Sites.{Site, operand, referent, int_operand}
use Rattle.model.specs.Objects.{any_object}
use Rattle.model.specs.Arrays.{is_negative, made_array, array_meaning, primitive_array_meaning, reference_array_meaning, array_length_meaning, in_range, at_index, element_at, load_meaning, stored, kept_by, store_int_meaning, may_stand_in, if_storable, store_reference_meaning, load_of, store_of}
use Rattle.model.specs.Step.{ops_of}
use Rattle.model.specs.Words.{map_slots}
use Rattle.run_laws.specs.word_runs.Words.{map_outcome}
use Rattle.run_laws.proofs.laws.Lists.{Pairwise}
use Rattle.run_laws.proofs.laws.WordLists.{map_index, map_copies, is_object_want}
use Rattle.run_laws.proofs.word_runs.WordWorlds.{world_words, object_words, object_at_words, elements_words, with_element_words, with_object_words, allocated_words}
use Rattle.run_laws.proofs.word_runs.WordMeanings.{operand_words, int_words, referent_words, not_null_words, goes_words, pushes_words, becomes_words, Same, instance_operand}

module _ (files : Program) where
  -- ---- new arrays

  made_words : (b : Bool) (next count : ℕ) (av : List Value → ObjectOf Value) (aw : List ℕ → ObjectOf ℕ) (first : Value) (world : World)
      (slots : Slots Value) (rest : List Value) → ((xs : List Value) → aw (map word_of xs) ≡ object_words (av xs))
      → made_array words b next count aw (word_of first) (world_words world) (map_slots word_of slots) (map word_of rest)
      ≡ map_outcome word_of (made_array values b next count av first world slots rest)
  made_words true next count av aw first world slots rest e = refl
  made_words false next count av aw first world slots rest e =
      let new = av (replicate count first) in
      goes_words (Makes count) (Makes count) _ (allocated world new) _ (value.Reference (length world.heap) ∷ rest) slots.locals next refl
      (ap (λ l. allocated (world_words world) (aw l)) (map_copies word_of count first) ∙ (ap (λ o. allocated (world_words world) o) (e (replicate count first)) ∙ allocated_words world new))
      (ap (λ n. suc n ∷ map word_of rest) (length-map world.heap object_words))

  array_same : (site : Site) (type : ReferenceType) (av : List Value → ObjectOf Value) (aw : List ℕ → ObjectOf ℕ) (first : Value)
      → ((xs : List Value) → aw (map word_of xs) ≡ object_words (av xs))
      → Same files (array_meaning values files site type av first) (array_meaning words files site type aw (word_of first))
  array_same site type av aw first e =
      record {
        looks = refl;
        wants = refl;
        may = λ event world ops q. refl;
        does = λ event world slots rest q texts.
            let ops = ops_of values (array_meaning values files site type av first) slots in
            ap (λ n. made_array words (is_negative n) site.next n aw (word_of first) (world_words world) (map_slots word_of slots) (map word_of rest)) (int_words ops 0)
            ∙ made_words (is_negative (int_operand values ops 0)) site.next (int_operand values ops 0) av aw first world slots rest e;
      }

  pub primitive_array_same : (site : Site) (of : Primitive)
      → Same files (primitive_array_meaning values files site of) (primitive_array_meaning words files site of)
  primitive_array_same site of = array_same site (PrimitiveArray of) (λ elements. Primitives of elements) (λ elements. Primitives of elements) (value.Int 0) (λ xs. refl)

  pub reference_array_same : (site : Site) (of : ReferenceType)
      → Same files (reference_array_meaning values files site of) (reference_array_meaning words files site of)
  reference_array_same site of = array_same site (ReferenceArray of) (λ elements. References of elements) (λ elements. References of elements) value.Null (λ xs. refl)

  -- ---- elements

  its_elements : (world : World) (r : ℕ) → elements_of (object_at (world_words world) r) ≡ map word_of (elements_of (object_at world r))
  its_elements world r = ap elements_of (object_at_words world r) ∙ elements_words (object_at world r)

  its_length : (world : World) (r : ℕ) → length (elements_of (object_at (world_words world) r)) ≡ length (elements_of (object_at world r))
  its_length world r = ap length (its_elements world r) ∙ length-map (elements_of (object_at world r)) word_of

  pub length_same : (site : Site) → Same files (array_length_meaning values site) (array_length_meaning words site)
  length_same site =
      record {
        looks = refl;
        wants = refl;
        may = λ event world ops q. refl;
        does = λ event world slots rest q texts.
            let ops = ops_of values (array_length_meaning values site) slots in
            not_null_words (referent words (map word_of ops) 0) (referent values ops 0) _
            (λ r. Goes Free world (record { locals = slots.locals; stack = value.Int (length (elements_of (object_at world r))) ∷ rest }) site.next)
            (referent_words files (types_of world.heap) (array_length_meaning values site).wants.pops ops 0 _ q refl refl)
            (λ r. pushes_words world _ (value.Int (length (elements_of (object_at world r)))) rest slots.locals site.next (its_length world r));
      }

  index_words : (b c : Bool) (w : OutcomeOf ℕ) (v : OutcomeOf Value) → b ≡ c → w ≡ map_outcome word_of v
      → at_index b w ≡ map_outcome word_of (at_index c v)
  index_words b c w v e f = ap (λ x. at_index x w) e ∙ by c
    where
      by : (c : Bool) → at_index c w ≡ map_outcome word_of (at_index c v)
      by true = f
      by false = refl

  range_words : (world : World) (r : ℕ) (ops : List Value) (k : ℕ)
      → in_range (world_words world) r (int_operand words (map word_of ops) k) ≡ in_range world r (int_operand values ops k)
  range_words world r ops k =
      ap (λ n. nat_lt (int_operand words (map word_of ops) k) n) (its_length world r) ∙ ap (λ i. nat_lt i (length (elements_of (object_at world r)))) (int_words ops k)

  load_same : (site : Site) (array : Want) (first : Value) (type : List VerificationType → VerificationType) → is_object_want array ≡ true
      → Same files (load_meaning values site array first type) (load_meaning words site array (word_of first) type)
  load_same site array first type o =
      record {
        looks = refl;
        wants = refl;
        may = λ event world ops q. refl;
        does = λ event world slots rest q texts.
            let ops = ops_of values (load_meaning values site array first type) slots in
            let i = int_operand values ops 0 in
            not_null_words (referent words (map word_of ops) 1) (referent values ops 1) _
            (λ r. at_index (in_range world r i) (Goes Free world (record { locals = slots.locals; stack = element_at first world r i ∷ rest }) site.next))
            (referent_words files (types_of world.heap) (load_meaning values site array first type).wants.pops ops 1 array q refl o)
            (λ r. index_words _ (in_range world r i) _ (Goes Free world (record { locals = slots.locals; stack = element_at first world r i ∷ rest }) site.next) (range_words world r ops 0)
            (pushes_words world _ (element_at first world r i) rest slots.locals site.next
            (ap (λ n. element_at (word_of first) (world_words world) r n) (int_words ops 0)
            ∙ (ap (λ l. slice_index_or l i (word_of first)) (its_elements world r) ∙ map_index word_of (elements_of (object_at world r)) i first))));
      }

  -- ---- stores

  stored_words : (next : ℕ) (world : World) (r : ℕ) (i j n : ℕ) (v : Value) (slots : Slots Value) (rest : List Value) → j ≡ i
      → n ≡ word_of v → stored next (world_words world) r j n (map_slots word_of slots) (map word_of rest)
      ≡ map_outcome word_of (stored next world r i v slots rest)
  stored_words next world r i j n v slots rest e f =
      becomes_words _ (with_object world r (with_element i v (object_at world r))) rest slots.locals next
      (ap (λ k. with_object (world_words world) r (with_element k n (object_at (world_words world) r))) e
      ∙ (ap (λ x. with_object (world_words world) r (with_element i x (object_at (world_words world) r))) f
      ∙ (ap (λ o. with_object (world_words world) r (with_element i (word_of v) o)) (object_at_words world r)
      ∙ (ap (λ o. with_object (world_words world) r o) (with_element_words i v (object_at world r)) ∙ with_object_words world r (with_element i v (object_at world r))))))

  kept_words : (o : ObjectOf Value) (v : Value) → kept_by words (object_words o) (word_of v) ≡ word_of (kept_by values o v)
  kept_words (Instance class fields) v = refl
  kept_words (Primitives of elements) v = refl
  kept_words (References of elements) v = refl
  kept_words (Characters text) v = refl

  store_int_same : (site : Site) (array : Want) → is_object_want array ≡ true
      → Same files (store_int_meaning values site array) (store_int_meaning words site array)
  store_int_same site array o =
      record {
        looks = refl;
        wants = refl;
        may = λ event world ops q. refl;
        does = λ event world slots rest q texts.
            let ops = ops_of values (store_int_meaning values site array) slots in
            let i = int_operand values ops 1 in
            not_null_words (referent words (map word_of ops) 2) (referent values ops 2) _
            (λ r. at_index (in_range world r i) (stored site.next world r i (kept_by values (object_at world r) (operand values ops 0)) slots rest))
            (referent_words files (types_of world.heap) (store_int_meaning values site array).wants.pops ops 2 array q refl o)
            (λ r. index_words _ (in_range world r i) _ (stored site.next world r i (kept_by values (object_at world r) (operand values ops 0)) slots rest) (range_words world r ops 1)
            (stored_words site.next world r i _ _ (kept_by values (object_at world r) (operand values ops 0)) slots rest (int_words ops 1)
            (ap (λ x. kept_by words x (operand words (map word_of ops) 0)) (object_at_words world r)
            ∙ (ap (λ n. kept_by words (object_words (object_at world r)) n) (operand_words ops 0) ∙ kept_words (object_at world r) (operand values ops 0)))));
      }

  stands_words : (world : World) (o : ObjectOf Value) (ws : List Want) (ops : List Value) (k : ℕ) (below : ReferenceType)
      → Pairwise (value_meets files (types_of world.heap)) ws ops → slice_get ws k ≡ Some (AReference below)
      → may_stand_in words files (world_words world) (object_words o) (operand words (map word_of ops) k)
      ≡ may_stand_in values files world o (operand values ops k)
  stands_words world (Instance class fields) ws ops k below q e = refl
  stands_words world (Primitives of elements) ws ops k below q e = refl
  stands_words world (References of elements) ws ops k below q e = instance_operand files world ws ops k below of q e
  stands_words world (Characters text) ws ops k below q e = refl

  storable_words : (b c : Bool) (w : OutcomeOf ℕ) (v : OutcomeOf Value) → b ≡ c → w ≡ map_outcome word_of v
      → if_storable b w ≡ map_outcome word_of (if_storable c v)
  storable_words b c w v e f = ap (λ x. if_storable x w) e ∙ by c
    where
      by : (c : Bool) → if_storable c w ≡ map_outcome word_of (if_storable c v)
      by true = f
      by false = refl

  store_reference_same : (site : Site) → Same files (store_reference_meaning values files site) (store_reference_meaning words files site)
  store_reference_same site =
      record {
        looks = refl;
        wants = refl;
        may = λ event world ops q. refl;
        does = λ event world slots rest q texts.
            let ops = ops_of values (store_reference_meaning values files site) slots in
            let ws = (store_reference_meaning values files site).wants.pops in
            let i = int_operand values ops 1 in
            let v = operand values ops 0 in
            not_null_words (referent words (map word_of ops) 2) (referent values ops 2) _
            (λ r. at_index (in_range world r i) (if_storable (may_stand_in values files world (object_at world r) v) (stored site.next world r i v slots rest)))
            (referent_words files (types_of world.heap) ws ops 2 _ q refl refl)
            (λ r. index_words _ (in_range world r i) _ (if_storable (may_stand_in values files world (object_at world r) v) (stored site.next world r i v slots rest)) (range_words world r ops 1)
            (storable_words _ (may_stand_in values files world (object_at world r) v) _ (stored site.next world r i v slots rest)
            (ap (λ o. may_stand_in words files (world_words world) o (operand words (map word_of ops) 0)) (object_at_words world r) ∙ stands_words world (object_at world r) ws ops 0 any_object q refl)
            (stored_words site.next world r i _ _ v slots rest (int_words ops 1) (operand_words ops 0))));
      }

  -- ---- by the kind of the array

  pub load_of_same : (site : Site) (kind : ArrayKind) → Same files (load_of values files site kind) (load_of words files site kind)
  load_of_same site array_kind.Int = load_same site _ (value.Int 0) _ refl
  load_of_same site array_kind.Reference = load_same site _ value.Null _ refl
  load_of_same site array_kind.ByteOrBoolean = load_same site _ (value.Int 0) _ refl
  load_of_same site array_kind.Char = load_same site _ (value.Int 0) _ refl
  load_of_same site array_kind.Short = load_same site _ (value.Int 0) _ refl

  pub store_of_same : (site : Site) (kind : ArrayKind) → Same files (store_of values files site kind) (store_of words files site kind)
  store_of_same site array_kind.Int = store_int_same site _ refl
  store_of_same site array_kind.Reference = store_reference_same site
  store_of_same site array_kind.ByteOrBoolean = store_int_same site _ refl
  store_of_same site array_kind.Char = store_int_same site _ refl
  store_of_same site array_kind.Short = store_int_same site _ refl
