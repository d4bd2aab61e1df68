-- Which instructions leave a thread the same stack, whatever the others do meanwhile.
use Rattle.std.proofs.Common.{◌≡◌, ℕ, List, [], ◌∷◌, ◌++◌, map, length, reverse, nat_lt, Bool, true, false, ◌&&◌, ◌==◌, if◌then◌else◌, Option, Some, None, option_map, refl, sym, ap, ◌∙◌, subst, not}
use Rattle.std.specs.Prelude.{is_none, unwrap_or, slice_get, slice_index_or}
use Rattle.std.specs.Option.{option_map_or, option_and_then}
use Rattle.std.proofs.lemmas.Bool.{false≢true}
use Rattle.std.proofs.lemmas.List.{length-map, length-reverse}
use Rattle.std.proofs.lemmas.Option.{same_Some, none-some, get_or_from_slice_get, slice_get-map}
use Rattle.model.specs.declared.event.Event.{Event}
use Rattle.model.specs.declared.instr.ArrayKind.{ArrayKind}
use Rattle.model.specs.declared.instr.ArrayKind.TheVariants as array_kind
use Rattle.model.specs.declared.instr.FieldAccess.TheVariants as access
use Rattle.model.specs.declared.instr.Instr.{Instr}
use Rattle.model.specs.declared.instr.Instr.TheVariants as instr
use Rattle.model.specs.declared.instr.Returned.{Returned}
use Rattle.model.specs.declared.instr.Returned.TheVariants as returned
use Rattle.model.specs.declared.value.Value.{Value}
use Rattle.model.specs.declared.value.Value.TheVariants as value
use Rattle.model.specs.Arrays.{is_negative, at_index, in_range, element_at, load_of}
use Rattle.model.specs.BuiltInMethods.{built_in_method}
use Rattle.model.specs.Calls.{Chosen, Fails, Runs, runs, invoked, may_run, may_invoke, of_receiver, of_class, parameter_count, return_of, selected, its_class, if_implements, special_class, argument_wants}
use Rattle.model.specs.ClassInitialisation.{IsReady, look_at}
use Rattle.model.specs.Classes.{Program, Body, body_of}
use Rattle.model.specs.DescribedTypes.{declared_want, made_type, parameters_declared, type_named}
use Rattle.model.specs.Frames.{frame_count, frame_with, entered_by, at_offset, at_call}
use Rattle.model.specs.Lookup.{find_field, is_instance_field, is_static_field}
use Rattle.model.specs.Meanings.{meaning_of}
use Rattle.model.specs.HiddenMembers.{is_hidden}
use Rattle.model.specs.Names.{Member}
use Rattle.model.specs.Objects.{any_object, cast, instance_bit}
use Rattle.model.specs.Opening.{class_reference, first_of}
use Rattle.model.specs.Operands.{Slots, values}
use Rattle.model.specs.Outcomes.{OutcomeOf, Goes, Raises, Throws, Interrupts, Calls, Returns, Waits, Free, StackOverflow, not_null}
use Rattle.model.specs.Pool.{integers_of}
use Rattle.model.specs.ReferenceTypes.{ReferenceType, ClassType, is_subtype, Char, Short, Int, PrimitiveArray, ReferenceArray}
use Rattle.model.specs.Rows.{Row, local_row}
use Rattle.model.specs.Sites.{MeaningOf, Site, operand, referent, int_operand, pushing}
use Rattle.model.specs.State.{ObjectOf, type_of, types_of, Frame, Invocation, StackOf, World}
use Rattle.model.specs.Step.{Next, part, entering, raised, leaving, returned, become}
use Rattle.model.specs.Types.{AReference, AnArray, is_array_type, value_meets, is_object_of, is_object_below, is_value_below, is_value_of, Want, AnInt, AByteArray, is_byte_array_type}
use Rattle.model.specs.WellTyped.{Extends}
use Rattle.model.specs.Worlds.{elements_of, no_object, is_owner, object_at, fields_of, value_in}
use Rattle.run_laws.proofs.laws.Lists.{Pairwise, get_last}
use Rattle.run_laws.proofs.laws.Operations.{NamedField, NamedStream, Operation, OfRow, GetSystemStream, GetStatic, PutStatic, GetField, PutField, Println, CallVirtual, CallConstructor, CallSpecial, CallStatic, CallInterface, Return, LoadClass, LoadString, New, NewArray, NewReferenceArray, ArrayLength, LoadElement, StoreElement, CheckCast, InstanceOf, Throw, MonitorEnter, MonitorExit, operation, OfMeaning, each_meaning}
use Rattle.run_laws.proofs.word_runs.WordMeanings.{Kinded, wanted_at}
use Rattle.search_laws.specs.Alone.{next_event}
use Rattle.search_laws.specs.OwnEvents.{KeepsStatics}
use Rattle.search_laws.specs.OwnSteps.{asks_by, asks, if_left, own_outcome}
use Rattle.search_laws.specs.Writes.{Variables, Fields, Statics, Elements, does_stay, IsUnchanged, KeepsVariables}
use Rattle.search_laws.proofs.Callees.{same_class}
use Rattle.search_laws.proofs.Instructed.{IsLeft}
use Rattle.search_laws.proofs.Plain.{IsPlain, null_plain, left_plain, array_plain, built_in_plain, row_plain, load_plain, store_plain}
use Rattle.search_laws.proofs.WaitsLast.{type_kept}

pub not_some : {X : Type 0} (own : StackOf Value) → None ≡ Some own → X
not_some own e = absurd (none-some own e)

left_of : (stack own : StackOf Value) → if_left stack ≡ Some own → (stack ≡ own) × IsLeft own
left_of [] own e = not_some own e
left_of (entry ∷ stack) own e =
    let same = same_Some (entry ∷ stack) own e in (same, record { entry = entry; rest = stack; is = sym same })

-- the answer stays of what is there
instance_same : (files : Program) (before after : List ReferenceType) → Extends before after → (type want : ReferenceType) (v : Value)
    → is_value_below files before want v ≡ true → is_value_of files after type v ≡ is_value_of files before type v
instance_same files before after x type want value.Unset h = refl
instance_same files before after x type want (value.Int bits) h = refl
instance_same files before after x type want value.Null h = refl
instance_same files before after x type want (value.Reference r) h = by (slice_get before r) refl h
  where
    by : (o : Option ReferenceType) → slice_get before r ≡ o → is_object_below files want o ≡ true
        → is_object_of files type (slice_get after r) ≡ is_object_of files type (slice_get before r)
    by None q k = absurd (false≢true k)
    by (Some t) q k = ap (is_object_of files type) (x.keeps r t q ∙ sym q)

row_no_query : (writes : Variables → Bool) (files : Program) (site : Site) (integers : List (Option ℕ)) (code : List ℕ) (at next : ℕ) (i : Instr) (row : Row)
    → local_row integers code at next i ≡ Some row → asks_by writes files site i ≡ false
row_no_query writes files site integers code at next (instr.CheckCast index) row e = absurd (none-some row e)
row_no_query writes files site integers code at next (instr.InstanceOf index) row e = absurd (none-some row e)
row_no_query writes files site integers code at next (instr.Field how index) row e = absurd (none-some row e)
row_no_query writes files site integers code at next (instr.LoadElement kind) row e = absurd (none-some row e)
row_no_query writes files site integers code at next instr.ArrayLength row e = absurd (none-some row e)
row_no_query writes files site integers code at next other row e = refl

not_true : (b : Bool) → not b ≡ true → b ≡ false
not_true true e = absurd (false≢true e)
not_true false e = refl

both : (a b : Bool) → (a && b) ≡ true → (a ≡ true) × (b ≡ true)
both true b e = (refl, e)
both false b e = absurd (false≢true e)

module _ (files : Program) (frames t : ℕ) (frame : Frame) (stack own : StackOf Value) where
  abbrev whole : StackOf Value
  whole = Invocation frame ∷ stack

  abbrev Own : Bool → OutcomeOf Value → Type 0
  Own is o = own_outcome files frames frame stack is o ≡ Some own

  plain_own : {X : Type 0} (is : Bool) (o : OutcomeOf Value) → IsPlain o → is ≡ false → Own is o → X
  plain_own is (Goes cost world slots to) h n e =
      not_some own (sym (ap (λ (b : Bool). if b then Some (Invocation (at_offset frame to slots) ∷ stack) else None) n) ∙ e)
  plain_own is (Raises fault) h n e = not_some own e
  plain_own is (Throws exception) h n e = not_some own e
  plain_own is Interrupts h n e = not_some own e
  plain_own is (Calls callee rest) h n e = absurd h
  plain_own is (Returns world results) h n e = absurd h
  plain_own is (Waits cost world rest) h n e = not_some own e

  -- what it becomes in a world
  pub record Becomes (world : World) (o : OutcomeOf Value) : Type 0 where
    pub becomes : become values files frames t world frame stack o ≡ Next Free (part world own)
    pub left : IsLeft own

  calls_own : (is : Bool) (world : World) (callee : Frame) (rest : List Value) → Own is (Calls callee rest) → Becomes world (Calls callee rest)
  calls_own is world callee rest e =
      let x = by (nat_lt (frame_count whole) frames) callee.entered e in record { becomes = x.0; left = x.1 }
    where
      by : (b : Bool) (o : Option ℕ) → (if b && is_none o then Some (Invocation callee ∷ Invocation (at_call frame rest) ∷ stack) else None) ≡ Some own
          → ((if b then entering t world (Invocation (at_call frame rest) ∷ stack) callee o else raised values files t StackOverflow world whole) ≡ Next Free (part world own))
          × IsLeft own
      by true None e =
          let same = same_Some (Invocation callee ∷ Invocation (at_call frame rest) ∷ stack) own e in
          (ap (λ k. Next Free (part world k)) same, record { entry = Invocation callee; rest = Invocation (at_call frame rest) ∷ stack; is = sym same })
      by true (Some object) e = not_some own e
      by false o e = not_some own e

  returns_own : (is : Bool) (world before : World) (results : List Value) → Own is (Returns before results) → Becomes world (Returns world results)
  returns_own is world before results e = let x = by frame.entered e in record { becomes = x.0; left = x.1 }
    where
      by : (o : Option ℕ) → (if is_none o then if_left (returned files results stack) else None) ≡ Some own
          → (leaving values files t o world (returned files results stack) whole ≡ Next Free (part world own)) × IsLeft own
      by None e = let x = left_of (returned files results stack) own e in (ap (λ k. Next Free (part world k)) x.0, x.1)
      by (Some object) e = not_some own e

  module _ (writes : Variables → Bool) (site : Site) (before after : World) (extends : Extends (types_of before.heap) (types_of after.heap))
      (kept : KeepsVariables writes before.heap after.heap) (kept_statics : KeepsStatics writes t before after) (ops rest : List Value) where
    abbrev slots : Slots Value
    slots = frame.place.slots

    abbrev is : Bool
    is = asks writes files site

    abbrev first : Event
    first = next_event t

    -- done in the world after, it leaves the thread the stack that it left it in the world before
    pub record IsSteady (m : MeaningOf Value) : Type 0 where
      pub becomes : Becomes after (m.does first after slots ops rest)
      pub may : (pick : ℕ) → m.may (record { thread = t; pick = pick }) after ops ≡ (pick == 0)

    abbrev pub Steady : MeaningOf Value → Type 0
    Steady m = Kinded files (types_of before.heap) m.wants ops → look_at t before m.looks ≡ IsReady → Own is (m.does first before slots ops rest) → IsSteady m

    no_query : (i : Instr) → site.instr ≡ i → asks_by writes files site i ≡ false → is ≡ false
    no_query i e n = ap (asks_by writes files site) e ∙ n

    plain_steady : (m : MeaningOf Value) → is ≡ false → IsPlain (m.does first before slots ops rest) → Steady m
    plain_steady m n h q ready e = plain_own is (m.does first before slots ops rest) h n e

    -- ---- questions

    answer_becomes : (next : ℕ) (x y : Value) → is ≡ true → y ≡ x → Own is (pushing next (x ∷ []) before slots rest)
        → Becomes after (pushing next (y ∷ []) after slots rest)
    answer_becomes next x y c k e =
        let to = Invocation (at_offset frame next (record { locals = slots.locals; stack = x ∷ rest })) ∷ stack in
        let same = same_Some to own (sym (ap (λ (b : Bool). if b then Some to else None) c) ∙ e) in
        let passes : Becomes after (pushing next (x ∷ []) after slots rest) =
        record { becomes = ap (λ s. Next Free (part after s)) same; left = record { entry = Invocation (at_offset frame next (record { locals = slots.locals; stack = x ∷ rest })); rest = stack; is = sym same } }
        in
        subst (λ z. Becomes after (pushing next (z ∷ []) after slots rest)) (sym k) passes

    cast_becomes : (b after_b : Bool) (next : ℕ) (v : Value) → is ≡ true → after_b ≡ b → Own is (cast b next v before slots rest)
        → Becomes after (cast after_b next v after slots rest)
    cast_becomes false after_b next v c k e = not_some own e
    cast_becomes true after_b next v c k e =
        subst (λ b. Becomes after (cast b next v after slots rest)) (sym k) (answer_becomes next v v c refl e)

    -- ---- what is there

    there_of : (test : ReferenceType → Bool) (r : ℕ) → option_map_or test (slice_get (types_of before.heap) r) false ≡ true
        → (o : ObjectOf Value) × (slice_get before.heap r ≡ Some o)
    there_of test r h = by (slice_get before.heap r) refl (sym (ap (λ o. option_map_or test o false) (slice_get-map type_of before.heap r)) ∙ h)
      where
        by : (o : Option (ObjectOf Value)) → slice_get before.heap r ≡ o → option_map_or test (option_map type_of (slice_get before.heap r)) false ≡ true
            → (o : ObjectOf Value) × (slice_get before.heap r ≡ Some o)
        by None k z = absurd (false≢true (sym (ap (λ o. option_map_or test (option_map type_of o) false) k) ∙ z))
        by (Some object) k z = (object, k)

    array_there : (v : Value) → value_meets files (types_of before.heap) AnArray v ≡ true → (r : ℕ) → values.referent v ≡ Some r
        → (o : ObjectOf Value) × (slice_get before.heap r ≡ Some o)
    array_there value.Unset h r e = absurd (none-some r e)
    array_there (value.Int bits) h r e = absurd (none-some r e)
    array_there value.Null h r e = absurd (none-some r e)
    array_there (value.Reference x) h r e =
        let same = same_Some x r e in subst (λ k. (o : ObjectOf Value) × (slice_get before.heap k ≡ Some o)) same (there_of is_array_type x h)

    object_there : (v : Value) (type : ReferenceType) → is_value_below files (types_of before.heap) type v ≡ true → (r : ℕ) → values.referent v ≡ Some r
        → (o : ObjectOf Value) × (slice_get before.heap r ≡ Some o)
    object_there value.Unset type h r e = absurd (none-some r e)
    object_there (value.Int bits) type h r e = absurd (none-some r e)
    object_there value.Null type h r e = absurd (none-some r e)
    object_there (value.Reference x) type h r e =
        let same = same_Some x r e in
        subst (λ k. (o : ObjectOf Value) × (slice_get before.heap k ≡ Some o)) same
        (by (slice_get before.heap x) refl (sym (ap (is_object_below files type) (slice_get-map type_of before.heap x)) ∙ h))
      where
        by : (o : Option (ObjectOf Value)) → slice_get before.heap x ≡ o → is_object_below files type (option_map type_of (slice_get before.heap x)) ≡ true
            → (o : ObjectOf Value) × (slice_get before.heap x ≡ Some o)
        by None k z = absurd (false≢true (sym (ap (λ o. is_object_below files type (option_map type_of o)) k) ∙ z))
        by (Some object) k z = (object, k)

    -- what is asked of it stays
    module _ {A : Type 0} (ask : ObjectOf Value → A) (same : (old new : ObjectOf Value) → IsUnchanged writes old new → ask new ≡ ask old) where
      asked_same : (r : ℕ) (o : ObjectOf Value) → slice_get before.heap r ≡ Some o → ask (object_at after r) ≡ ask (object_at before r)
      asked_same r o e =
          let x = kept r o e in
          ap ask (get_or_from_slice_get after.heap r x.0 no_object x.1.0)
          ∙ (same o x.0 x.1.1 ∙ sym (ap ask (get_or_from_slice_get before.heap r o no_object e)))

    abbrev There : Option ℕ → Type 0
    There o = (r : ℕ) → o ≡ Some r → (object : ObjectOf Value) × (slice_get before.heap r ≡ Some object)

    module _ (ask : ObjectOf Value → Value) (same : (old new : ObjectOf Value) → IsUnchanged writes old new → ask new ≡ ask old) (c : is ≡ true) where
      asked_becomes : (o : Option ℕ) → There o
          → Own is (not_null o (λ r. pushing site.next (ask (object_at before r) ∷ []) before slots rest))
          → Becomes after (not_null o (λ r. pushing site.next (ask (object_at after r) ∷ []) after slots rest))
      asked_becomes None there e = not_some own e
      asked_becomes (Some r) there e =
          let x = there r refl in
          answer_becomes site.next (ask (object_at before r)) (ask (object_at after r)) c (asked_same ask same r x.0 x.1) e

    -- ---- loads

    index_becomes : (b after_b : Bool) (x y : Value) → after_b ≡ b → is ≡ true → y ≡ x
        → Own is (at_index b (pushing site.next (x ∷ []) before slots rest))
        → Becomes after (at_index after_b (pushing site.next (y ∷ []) after slots rest))
    index_becomes true after_b x y k c q e =
        subst (λ b. Becomes after (at_index b (pushing site.next (y ∷ []) after slots rest))) (sym k) (answer_becomes site.next x y c q e)
    index_becomes false after_b x y k c q e = not_some own e

    loaded_becomes : (default : Value) (index : ℕ) (o : Option ℕ) → There o → is ≡ true → writes Elements ≡ false
        → Own is (not_null o (λ r. at_index (in_range before r index) (pushing site.next (element_at default before r index ∷ []) before slots rest)))
        → Becomes after (not_null o (λ r. at_index (in_range after r index) (pushing site.next (element_at default after r index ∷ []) after slots rest)))
    loaded_becomes default index None there c n e = not_some own e
    loaded_becomes default index (Some r) there c n e =
        let x = there r refl in
        let same = asked_same elements_of (λ old new u. u.elements n) r x.0 x.1 in
        index_becomes (in_range before r index) (in_range after r index) (element_at default before r index) (element_at default after r index)
        (ap (λ (l : List Value). nat_lt index (length l)) same) c (ap (λ (l : List Value). slice_index_or l index default) same) e

    meets_second : (want : Want) → Pairwise (value_meets files (types_of before.heap)) (AnInt ∷ want ∷ []) ops
        → value_meets files (types_of before.heap) want (operand values ops 1) ≡ true
    meets_second want q = wanted_at (value_meets files (types_of before.heap)) (AnInt ∷ want ∷ []) ops 1 want value.Unset q refl

    bytes_there : (v : Value) → value_meets files (types_of before.heap) AByteArray v ≡ true → (r : ℕ) → values.referent v ≡ Some r
        → (o : ObjectOf Value) × (slice_get before.heap r ≡ Some o)
    bytes_there value.Unset h r e = absurd (none-some r e)
    bytes_there (value.Int bits) h r e = absurd (none-some r e)
    bytes_there value.Null h r e = absurd (none-some r e)
    bytes_there (value.Reference x) h r e =
        let same = same_Some x r e in subst (λ k. (o : ObjectOf Value) × (slice_get before.heap k ≡ Some o)) same (there_of is_byte_array_type x h)

    module _ (c : is ≡ true) (n : writes Elements ≡ false) where
      load_steady : (kind : ArrayKind) → Steady (load_of values files site kind)
      load_steady array_kind.Int q ready e = record {
        becomes = loaded_becomes (values.int 0) (int_operand values ops 0) (referent values ops 1) (object_there (operand values ops 1) (PrimitiveArray Int) (meets_second (AReference (PrimitiveArray Int)) q)) c n e;
        may = λ pick. refl;
      }
      load_steady array_kind.Reference q ready e = record {
        becomes = loaded_becomes values.over.null (int_operand values ops 0) (referent values ops 1) (object_there (operand values ops 1) (ReferenceArray any_object) (meets_second (AReference (ReferenceArray any_object)) q)) c n e;
        may = λ pick. refl;
      }
      load_steady array_kind.ByteOrBoolean q ready e = record {
        becomes = loaded_becomes (values.int 0) (int_operand values ops 0) (referent values ops 1) (bytes_there (operand values ops 1) (meets_second AByteArray q)) c n e;
        may = λ pick. refl;
      }
      load_steady array_kind.Char q ready e = record {
        becomes = loaded_becomes (values.int 0) (int_operand values ops 0) (referent values ops 1) (object_there (operand values ops 1) (PrimitiveArray Char) (meets_second (AReference (PrimitiveArray Char)) q)) c n e;
        may = λ pick. refl;
      }
      load_steady array_kind.Short q ready e = record {
        becomes = loaded_becomes (values.int 0) (int_operand values ops 0) (referent values ops 1) (object_there (operand values ops 1) (PrimitiveArray Short) (meets_second (AReference (PrimitiveArray Short)) q)) c n e;
        may = λ pick. refl;
      }

    -- ---- calls

    abbrev calls : World → ℕ → Chosen → OutcomeOf Value
    calls world object chosen = invoked values files site first world slots ops rest object chosen

    module _ (n : is ≡ false) where
      record IsCalled (object : ℕ) (chosen : Chosen) : Type 0 where
        becomes : Becomes after (calls after object chosen)
        may : (pick : ℕ) → may_invoke values files (record { thread = t; pick = pick }) after ops chosen ≡ (pick == 0)

      called : (object : ℕ) (chosen : Chosen) → Own is (calls before object chosen) → IsCalled object chosen
      called object (Fails fault) e = not_some own e
      called object (Runs method) e = by (body_of files method) refl e
        where
          by : (o : Option Body) → body_of files method ≡ o → Own is (runs values files site first before slots ops rest object method o)
              → IsCalled object (Runs method)
          by None q e = plain_own is (runs values files site first before slots ops rest object method None) (built_in_plain files (built_in_method method) site.next first before slots ops rest) n e
          by (Some body) q e =
              let callee = frame_with values method (reverse ops) (entered_by files method object) body in
              record {
                becomes = subst (λ o. Becomes after (runs values files site first after slots ops rest object method o)) (sym q) (calls_own is after callee rest e);
                may = λ pick. ap (λ o. may_run values (record { thread = t; pick = pick }) after ops method o) q;
              }

      -- of a receiver that is there
      called_on : (choose : World → ℕ → Chosen) (o : Option ℕ)
          → ((r : ℕ) → o ≡ Some r → choose after r ≡ choose before r)
          → Own is (calls before (unwrap_or o 0) (of_receiver o (choose before)))
          → IsCalled (unwrap_or o 0) (of_receiver o (choose after))
      called_on choose None k e = not_some own e
      called_on choose (Some r) k e = subst (IsCalled r) (sym (k r refl)) (called r (choose before r) e)

    -- ---- the receiver

    module _ (method : Member) (named : ReferenceType) (q : Pairwise (value_meets files (types_of before.heap)) (argument_wants files method (AReference (made_type files named) ∷ [])) ops) where
      abbrev receiver : Value
      receiver = operand values ops (parameter_count method)

      place_of : slice_get (argument_wants files method (AReference (made_type files named) ∷ [])) (parameter_count method) ≡ Some (AReference (made_type files named))
      place_of =
          let wants = reverse (map (declared_want files) (parameters_declared method.descriptor)) in
          subst (λ k. slice_get (wants ++ AReference (made_type files named) ∷ []) k ≡ Some (AReference (made_type files named)))
          (length-reverse (map (declared_want files) (parameters_declared method.descriptor)) ∙ length-map (parameters_declared method.descriptor) (declared_want files))
          (get_last wants (AReference (made_type files named)))

      meets : value_meets files (types_of before.heap) (AReference (made_type files named)) receiver ≡ true
      meets =
          wanted_at (value_meets files (types_of before.heap)) (argument_wants files method (AReference (made_type files named) ∷ [])) ops (parameter_count method) (AReference (made_type files named)) value.Unset q place_of

      type_same : (r : ℕ) → values.referent receiver ≡ Some r → type_of (object_at after r) ≡ type_of (object_at before r)
      type_same r e = let o = object_there receiver (made_type files named) meets r e in type_kept before after r o.0 extends o.1

    -- ---- the table

    called_steady : (n : is ≡ false) (method : Member) (choose : World → ℕ → Chosen)
        → ((r : ℕ) → values.referent (operand values ops (parameter_count method)) ≡ Some r → choose after r ≡ choose before r)
        → Own is (calls before (unwrap_or (values.referent (operand values ops (parameter_count method))) 0) (of_receiver (values.referent (operand values ops (parameter_count method))) (choose before)))
        → IsCalled n (unwrap_or (values.referent (operand values ops (parameter_count method))) 0) (of_receiver (values.referent (operand values ops (parameter_count method))) (choose after))
    called_steady n method choose k e = called_on n choose (values.referent (operand values ops (parameter_count method))) k e

    return_steady : (kind : Returned) → Steady (return_of values files site.method.descriptor kind)
    return_steady returned.Nothing q ready e = record { becomes = returns_own is after before [] e; may = λ pick. refl }
    return_steady returned.Int q ready e = record { becomes = returns_own is after before (operand values ops 0 ∷ []) e; may = λ pick. refl }
    return_steady returned.Reference q ready e = record { becomes = returns_own is after before (operand values ops 0 ∷ []) e; may = λ pick. refl }

    plain_at : (o : Operation files site) → is ≡ false → IsPlain ((operation values files site o).does first before slots ops rest)
        → Steady (operation values files site o)
    plain_at o n h = plain_steady (operation values files site o) n h

    get_steady : (f : NamedField files site access.GetField is_instance_field) (b : Bool) → is ≡ b → Steady (operation values files site (GetField f))
    get_steady f false c = plain_at (GetField f) c (null_plain (referent values ops 0) _ (λ r. tt))
    get_steady f true c = λ q ready own.
        let reads =
        ap (asks_by writes files site) f.instruction
        ∙ (ap (λ o. option_map_or (does_stay writes) (option_map (λ field. Fields field) (option_and_then (find_field files) o)) false) f.names
        ∙ ap (λ o. option_map_or (does_stay writes) (option_map (λ field. Fields field) o) false) f.found)
        in
        let n = both (not (writes (Fields f.field))) (not (is_hidden f.field)) (sym reads ∙ c) in
        let want = of_class files f.named.class in
        let meets = wanted_at (value_meets files (types_of before.heap)) (want ∷ []) ops 0 want value.Unset q refl in
        record {
          becomes = asked_becomes (λ o. value_in (first_of values f.field) f.field (fields_of o))
              (λ old new u. u.fields f.field (first_of values f.field) (not_true (writes (Fields f.field)) n.0) (not_true (is_hidden f.field) n.1)) c (referent values ops 0)
              (object_there (operand values ops 0) (made_type files (ClassType f.named.class)) meets) own;
          may = λ pick. refl;
        }

    stream_steady : (index stream : ℕ) (n : NamedStream files site index stream) (b : Bool) → is ≡ b → Steady (operation values files site (GetSystemStream index stream n))
    stream_steady index stream n false c = plain_at (GetSystemStream index stream n) c tt
    stream_steady index stream n true c = λ q ready own.
        let v = values.reference stream in record { becomes = answer_becomes site.next v v c refl own; may = λ pick. refl }

    static_steady : (f : NamedField files site access.GetStatic is_static_field) (b : Bool) → is ≡ b → Steady (operation values files site (GetStatic f))
    static_steady f false c = plain_at (GetStatic f) c tt
    static_steady f true c = λ q ready own.
        let reads =
        ap (asks_by writes files site) f.instruction
        ∙ (ap (λ o. option_map_or (does_stay writes) (option_map (λ field. Statics field) (option_and_then (find_field files) o)) false) f.names
        ∙ ap (λ o. option_map_or (does_stay writes) (option_map (λ field. Statics field) o) false) f.found)
        in
        let first = first_of values f.field in
        let same = kept_statics f.field first (not_true (writes (Statics f.field)) (sym reads ∙ c)) ready in
        record {
          becomes = answer_becomes site.next (value_in first f.field before.statics) (value_in first f.field after.statics) c same own;
          may = λ pick. refl;
        }

    load_at : (kind : ArrayKind) (i : site.instr ≡ instr.LoadElement kind) (b : Bool) → is ≡ b → Steady (load_of values files site kind)
    load_at kind i false c = plain_at (LoadElement kind i) c (load_plain files site first before slots ops rest kind)
    load_at kind i true c = load_steady c (not_true (writes Elements) (sym (ap (asks_by writes files site) i) ∙ c)) kind

    steady : (o : Operation files site) → Steady (operation values files site o)
    steady (OfRow row e) =
        plain_at (OfRow row e) (row_no_query writes files site (integers_of site.body.pool) site.body.code.code site.offset site.next site.instr row e) (row_plain files site first before slots ops rest row)
    steady (GetSystemStream index stream n) = stream_steady index stream n is refl
    steady (GetStatic f) = static_steady f is refl
    steady (PutStatic f) = plain_at (PutStatic f) (no_query _ f.instruction refl) tt
    steady (GetField f) = get_steady f is refl
    steady (PutField f) = plain_at (PutField f) (no_query _ f.instruction refl) (null_plain (referent values ops 1) _ (λ r. tt))
    steady (Println call e) = plain_at (Println call e) (no_query _ call.instruction refl) (null_plain (referent values ops 1) _ (λ r. tt))
    steady (CallVirtual call e m) = λ q ready own.
        let c = called_steady (no_query _ call.instruction refl) m.method (λ world r. selected files (its_class world r) m.method)
        (λ r k. ap (λ c. selected files c m.method) (same_class before after r (type_same m.method (type_named call.named.class) q r k))) own in
        record { becomes = c.becomes; may = c.may }
    steady (CallConstructor call e passes) = λ q ready own.
        let c = called_steady (no_query _ call.instruction refl) call.named (λ world r. Runs call.named) (λ r k. refl) own in
        record { becomes = c.becomes; may = c.may }
    steady (CallSpecial call e m) = λ q ready own.
        let c = called_steady (no_query _ call.instruction refl) m.method (λ world r. selected files (special_class files site.method.class call.named.class) m.method) (λ r k. refl) own in
        record { becomes = c.becomes; may = c.may }
    steady (CallStatic index i m) = λ q ready own.
        let c = called (no_query _ i refl) (class_reference files m.method.class) (Runs m.method) own in record { becomes = c.becomes; may = c.may }
    steady (CallInterface call m) = λ q ready own.
        let choose : World → ℕ → Chosen = λ world r. if_implements (is_subtype files (type_of (object_at world r)) (ClassType call.named.class)) (selected files (its_class world r) m.method) in
        let c = called_steady (no_query _ call.instruction refl) m.method choose
        (λ r k.
        let same = type_same m.method (ClassType call.named.class) q r k in
        ap (λ t. if_implements (is_subtype files t (ClassType call.named.class)) (selected files (its_class after r) m.method)) same
        ∙ ap (λ c. if_implements (is_subtype files (type_of (object_at before r)) (ClassType call.named.class)) (selected files c m.method)) (same_class before after r same)) own in
        record { becomes = c.becomes; may = c.may }
    steady (Return kind i) = return_steady kind
    steady (LoadClass constant file e) = plain_at (LoadClass constant file e) (no_query _ constant.instruction refl) tt
    steady (LoadString constant) = plain_at (LoadString constant) (no_query _ constant.instruction refl) tt
    steady (New class file e) = plain_at (New class file e) (no_query _ class.instruction refl) tt
    steady (NewArray code of i e) = plain_at (NewArray code of i e) (no_query _ i refl) (array_plain (is_negative (int_operand values ops 0)) site.next (int_operand values ops 0) _ _ before slots rest)
    steady (NewReferenceArray class) = plain_at (NewReferenceArray class) (no_query _ class.instruction refl) (array_plain (is_negative (int_operand values ops 0)) site.next (int_operand values ops 0) _ _ before slots rest)
    steady (ArrayLength i) = λ q ready own.
        let v = operand values ops 0 in
        let meets = wanted_at (value_meets files (types_of before.heap)) (AnArray ∷ []) ops 0 AnArray value.Unset q refl in
        record { becomes = asked_becomes (λ o. values.int (length (elements_of o))) (λ old new u. ap values.int u.lengths) (ap (asks_by writes files site) i) (referent values ops 0) (array_there v meets) own; may = λ pick. refl }
    steady (LoadElement kind i) = load_at kind i is refl
    steady (StoreElement kind i) = plain_at (StoreElement kind i) (no_query _ i refl) (store_plain files site first before slots ops rest kind)
    steady (CheckCast class) = λ q ready own.
        let type = type_named class.name in
        let v = operand values ops 0 in
        let meets = wanted_at (value_meets files (types_of before.heap)) (AReference any_object ∷ []) ops 0 (AReference any_object) value.Unset q refl in
        record {
          becomes = cast_becomes (values.is_instance files (types_of before.heap) type v) (values.is_instance files (types_of after.heap) type v) site.next v (ap (asks_by writes files site) class.instruction)
              (instance_same files (types_of before.heap) (types_of after.heap) extends type any_object v meets) own;
          may = λ pick. refl;
        }
    steady (InstanceOf class) = λ q ready own.
        let type = type_named class.name in
        let v = operand values ops 0 in
        let meets = wanted_at (value_meets files (types_of before.heap)) (AReference any_object ∷ []) ops 0 (AReference any_object) value.Unset q refl in
        let same = instance_same files (types_of before.heap) (types_of after.heap) extends type any_object v meets in
        let answer : Bool → Value = λ b. values.int (instance_bit (referent values ops 0) b) in
        record {
          becomes = answer_becomes site.next (answer (values.is_instance files (types_of before.heap) type v)) (answer (values.is_instance files (types_of after.heap) type v)) (ap (asks_by writes files site) class.instruction) (ap answer same) own;
          may = λ pick. refl;
        }
    steady (Throw i) = plain_at (Throw i) (no_query _ i refl) (null_plain (referent values ops 0) (λ r. Throws r) (λ r. tt))
    steady (MonitorEnter i) = plain_at (MonitorEnter i) (no_query _ i refl) (null_plain (referent values ops 0) _ (λ r. tt))
    steady (MonitorExit i) =
        plain_at (MonitorExit i) (no_query _ i refl) (null_plain (referent values ops 0) _ (λ r. left_plain (is_owner before t r) site.next t r before slots rest))

    pub meaning_steady : OfMeaning Steady (meaning_of values files site)
    meaning_steady = each_meaning values files site Steady steady
