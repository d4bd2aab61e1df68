-- What a call of a method without code that accesses variables does, and that it does the same in a later world.
use Rattle.std.proofs.Common.{◌≡◌, refl, sym, ◌∙◌, ap, subst, ℕ, zero, suc, List, [], ◌∷◌, ◌++◌, map, length, reverse}
use Rattle.std.specs.Prelude.{Option, Some, None, Bool, true, false, ◌==◌, slice_get, slice_index_or, unwrap_or}
use Rattle.std.specs.Option.{option_and_then, option_map_or}
use Rattle.std.proofs.lemmas.Bool.{false≢true}
use Rattle.std.proofs.lemmas.List.{length-map, length-reverse}
use Rattle.std.proofs.lemmas.Option.{same_Some, none-some}
use Rattle.model.specs.declared.event.Event.{Event}
use Rattle.model.specs.declared.value.Value.{Value}
use Rattle.model.specs.declared.value.Value.TheVariants as value
use Rattle.model.specs.BuiltInMethods.{BuiltInMethod, ObjectClone, StringWrites, StringBuilderBuilds, built_in_method, built_in_may, built_in_does}
use Rattle.model.specs.Calls.{Runs, parameter_count, argument_wants, of_receiver, invoked, runs, may_invoke, may_run, call_on}
use Rattle.model.specs.Classes.{Program, body_of}
use Rattle.model.specs.DescribedTypes.{declared_want, parameters_declared}
use Rattle.model.specs.Meanings.{meaning_of}
use Rattle.model.specs.Names.{Member}
use Rattle.model.specs.Operands.{Slots, values, reference_of}
use Rattle.model.specs.ReferenceTypes.{ReferenceType, ClassType}
use Rattle.model.specs.Sites.{MeaningOf, Site, operand, referent}
use Rattle.model.specs.State.{ObjectOf, type_of, types_of, World}
use Rattle.model.specs.Types.{Want, AnyWord, AnInt, AnyReference, AReference, AReceiver, AnOwner, AnArray, AByteArray, value_meets, is_array_type, is_byte_array_type, is_object_below}
use Rattle.model.specs.WellTyped.{Extends}
use Rattle.model.specs.Worlds.{no_object, object_at}
use Rattle.run_laws.proofs.laws.Lists.{Pairwise}
use Rattle.run_laws.proofs.laws.WordLists.{is_object_want}
use Rattle.run_laws.proofs.word_runs.WordBuiltIns.{receiver_place, placed}
use Rattle.run_laws.proofs.word_runs.WordMeanings.{Kinded, wanted_at}
use Rattle.data_races.specs.Actions.{Action}
use Rattle.data_races.specs.EventActions.{method_chosen, method_run, without_code, built_in_accesses}
use Rattle.data_races.proofs.Decided.{In}
use Rattle.data_races.proofs.BuilderCalls.{accessing_method, may_at_once, Builds, IsCallOn, Calling, CallsOn, BuildsNone, runs_builder, chosen_runs, on_receiver, calling}

-- ---- an access of a built-in method is one of such a method

pub record AccessesBy (files : Program) (world : World) (ops : List Value) (a : Action) (run : Option BuiltInMethod) : Type 0 where
  pub method : BuiltInMethod
  pub is : run ≡ Some method
  pub accessing : accessing_method method ≡ Some method
  pub accesses : In a (built_in_accesses files world ops method)

pub accesses_by : (files : Program) (world : World) (ops : List Value) (a : Action) (run : Option BuiltInMethod)
    → In a (option_map_or (built_in_accesses files world ops) run []) → AccessesBy files world ops a run
accesses_by files world ops a None h = absurd h
accesses_by files world ops a (Some (StringBuilderBuilds b)) h = record { method = StringBuilderBuilds b; is = refl; accessing = refl; accesses = h }
accesses_by files world ops a (Some (StringWrites b)) h = record { method = StringWrites b; is = refl; accessing = refl; accesses = h }
accesses_by files world ops a (Some ObjectClone) h = record { method = ObjectClone; is = refl; accessing = refl; accesses = h }
accesses_by files world ops a (Some _) h = absurd h

-- ---- what is wanted as an object and not null is there

module _ (files : Program) (objects : List ReferenceType) (r : ℕ) where
  below_there : (type : ReferenceType) (o : Option ReferenceType) → slice_get objects r ≡ o → is_object_below files type o ≡ true
      → (t : ReferenceType) × (slice_get objects r ≡ Some t)
  below_there type None e h = absurd (false≢true h)
  below_there type (Some t) e h = (t, e)

  with_there : (test : ReferenceType → Bool) (o : Option ReferenceType) → slice_get objects r ≡ o → option_map_or test o false ≡ true
      → (t : ReferenceType) × (slice_get objects r ≡ Some t)
  with_there test None e h = absurd (false≢true h)
  with_there test (Some t) e h = (t, e)

  object_there : (want : Want) → is_object_want want ≡ true → value_meets files objects want (value.Reference r) ≡ true
      → (t : ReferenceType) × (slice_get objects r ≡ Some t)
  object_there AnyWord o h = absurd (false≢true o)
  object_there AnInt o h = absurd (false≢true o)
  object_there AnyReference o h = absurd (false≢true o)
  object_there (AReference type) o h = below_there type (slice_get objects r) refl h
  object_there (AReceiver class) o h = below_there (ClassType class) (slice_get objects r) refl h
  object_there (AnOwner class) o h = below_there (ClassType class) (slice_get objects r) refl h
  object_there AnArray o h = with_there is_array_type (slice_get objects r) refl h
  object_there AByteArray o h = with_there is_byte_array_type (slice_get objects r) refl h

reference_is : (v : Value) (r : ℕ) → reference_of v ≡ Some r → v ≡ value.Reference r
reference_is value.Unset r e = absurd (none-some r e)
reference_is (value.Int bits) r e = absurd (none-some r e)
reference_is value.Null r e = absurd (none-some r e)
reference_is (value.Reference s) r e = ap (λ n. value.Reference n) (same_Some s r e)

pub type_in : (heap : List (ObjectOf Value)) (r : ℕ) (t : ReferenceType) (d : ObjectOf Value) → slice_get (map type_of heap) r ≡ Some t → type_of (slice_index_or heap r d) ≡ t
type_in [] r t d e = absurd (none-some t e)
type_in (o ∷ heap) zero t d e = same_Some (type_of o) t e
type_in (o ∷ heap) (suc r) t d e = type_in heap r t d e

get_last : {A : Type 0} (xs : List A) (x : A) → slice_get (xs ++ x ∷ []) (length xs) ≡ Some x
get_last [] x = refl
get_last (y ∷ xs) x = get_last xs x

module _ (files : Program) (site : Site) (meaning : MeaningOf Value) (c : IsCallOn files site meaning) where
  abbrev place : ℕ
  place = parameter_count c.method

  abbrev called : MeaningOf Value
  called = call_on values files site c.method (c.receiver ∷ []) c.leads c.choose

  pub wanted : slice_get (argument_wants files c.method (c.receiver ∷ [])) place ≡ Some c.receiver
  wanted =
      let parameters = parameters_declared c.method.descriptor in
      let wants = reverse (map (declared_want files) parameters) in
      subst (λ n. slice_get (wants ++ c.receiver ∷ []) n ≡ Some c.receiver) (length-reverse (map (declared_want files) parameters) ∙ length-map parameters (declared_want files))
      (get_last wants c.receiver)

  -- which method is run, and on what
  pub record Called (world : World) (ops : List Value) (b : BuiltInMethod) : Type 0 where
    pub method : Member
    pub no_code : body_of files method ≡ None
    pub is : built_in_method method ≡ b
    pub accesses : accessing_method b ≡ Some b
    pub object : ℕ
    pub on : referent values ops place ≡ Some object
    pub chosen : c.choose world object ≡ Runs method

  pub called_by : (world : World) (ops : List Value) (b : BuiltInMethod) → Builds files site world ops b → Called world ops b
  called_by world ops b h =
      let r = runs_builder files b (method_run files site world ops site.instr) h.runs in
      let o = on_receiver (referent values ops place) (c.choose world) r.method (chosen_runs _ r.method (sym (c.chooses world ops) ∙ r.runs)) in
      record { method = r.method; no_code = r.no_code; is = r.is; accesses = h.accesses; object = o.0; on = o.1; chosen = o.2 }

  -- the receiver stands where the method has it
  pub place_is : (world : World) (ops : List Value) (b : BuiltInMethod) (k : ℕ) → receiver_place b ≡ Some k → Called world ops b → place ≡ k
  place_is world ops b k e h =
      let described = c.describes world h.object h.method h.chosen in
      ap (λ d. length (parameters_declared d)) (sym described) ∙ (placed files h.method k (ap receiver_place h.is ∙ e)).place

  pub builds_by : (world : World) (ops : List Value) (b : BuiltInMethod) → Called world ops b → Builds files site world ops b
  builds_by world ops b h =
      record {
        runs =
            ap (option_and_then (λ (method : Member). without_code method (body_of files method)))
            (c.chooses world ops ∙ (ap (λ o. method_chosen (of_receiver o (c.choose world))) h.on ∙ ap method_chosen h.chosen))
            ∙ (ap (without_code h.method) h.no_code ∙ ap Some h.is);
        accesses = h.accesses;
      }

  module _ (event : Event) (world : World) (ops : List Value) (b : BuiltInMethod) (h : Called world ops b) where
    abbrev of : ℕ
    of = unwrap_or (referent values ops place) 0

    called_does : (slots : Slots Value) (rest : List Value)
        → called.does event world slots ops rest ≡ built_in_does values files b site.next event world slots ops rest
    called_does slots rest =
        ap (λ o. invoked values files site event world slots ops rest of (of_receiver o (c.choose world))) h.on
        ∙ (ap (invoked values files site event world slots ops rest of) h.chosen
        ∙ (ap (runs values files site event world slots ops rest of h.method) h.no_code
        ∙ ap (λ m. built_in_does values files m site.next event world slots ops rest) h.is))

    called_may : called.may event world ops ≡ (event.pick == 0)
    called_may =
        ap (λ o. may_invoke values files event world ops (of_receiver o (c.choose world))) h.on
        ∙ (ap (may_invoke values files event world ops) h.chosen
        ∙ (ap (may_run values event world ops h.method) h.no_code
        ∙ (ap (λ m. built_in_may values m event world ops) h.is ∙ may_at_once values b b h.accesses event world ops)))

    pub does_is : (slots : Slots Value) (rest : List Value)
        → meaning.does event world slots ops rest ≡ built_in_does values files b site.next event world slots ops rest
    does_is slots rest = ap (λ (m : MeaningOf Value). m.does event world slots ops rest) c.is ∙ called_does slots rest

    pub may_is : meaning.may event world ops ≡ (event.pick == 0)
    may_is = ap (λ (m : MeaningOf Value). m.may event world ops) c.is ∙ called_may

  -- in a world with another receiver of the same type it runs the same method
  pub called_again : (world other : World) (ops : List Value) (b : BuiltInMethod) (h : Called world ops b)
      → type_of (object_at other h.object) ≡ type_of (object_at world h.object) → Called other ops b
  called_again world other ops b h e =
      record { method = h.method; no_code = h.no_code; is = h.is; accesses = h.accesses; object = h.object; on = h.on; chosen = c.by_type world other h.object e ∙ h.chosen }

  pub kinds_of : (objects : List ReferenceType) (ops : List Value) → Kinded files objects meaning.wants ops
      → Pairwise (value_meets files objects) (argument_wants files c.method (c.receiver ∷ [])) ops
  kinds_of objects ops k = subst (λ (m : MeaningOf Value). Kinded files objects m.wants ops) c.is k

  -- the receiver is there
  pub receiver_there : (objects : List ReferenceType) (ops : List Value) (r : ℕ) → Kinded files objects meaning.wants ops → referent values ops place ≡ Some r
      → (t : ReferenceType) × (slice_get objects r ≡ Some t)
  receiver_there objects ops r k on =
      let wants = argument_wants files c.method (c.receiver ∷ []) in
      let met = wanted_at (value_meets files objects) wants ops place c.receiver value.Unset (kinds_of objects ops k) wanted in
      object_there files objects r c.receiver c.object (subst (λ v. value_meets files objects c.receiver v ≡ true) (reference_is (operand values ops place) r on) met)

  pub called_later : (world later : World) → Extends (types_of world.heap) (types_of later.heap) → (ops : List Value) (b : BuiltInMethod)
      → Kinded files (types_of world.heap) meaning.wants ops → Called world ops b → Called later ops b
  called_later world later x ops b k h =
      let there = receiver_there (types_of world.heap) ops h.object k h.on in
      called_again world later ops b h
      (type_in later.heap h.object there.0 no_object (x.keeps h.object there.0 there.1) ∙ sym (type_in world.heap h.object there.0 no_object there.1))

-- ---- of each instruction

module _ (files : Program) (site : Site) (meaning : MeaningOf Value) (means : meaning_of values files site ≡ Some meaning) where
  pub record DoesBuild (world : World) (ops : List Value) (b : BuiltInMethod) : Type 0 where
    pub call : IsCallOn files site meaning
    pub called : Called files site meaning call world ops b

  pub does_build : (world : World) (ops : List Value) (b : BuiltInMethod) → Builds files site world ops b → DoesBuild world ops b
  does_build world ops b h = by (calling files site meaning means)
    where
      by : Calling files site meaning → DoesBuild world ops b
      by (CallsOn c) = record { call = c; called = called_by files site meaning c world ops b h }
      by (BuildsNone never) = absurd (never world ops b h)

  pub builds_later : (world later : World) → Extends (types_of world.heap) (types_of later.heap) → (ops : List Value) (b : BuiltInMethod)
      → Kinded files (types_of world.heap) meaning.wants ops → Builds files site world ops b → Builds files site later ops b
  builds_later world later x ops b k h =
      let d = does_build world ops b h in
      builds_by files site meaning d.call later ops b (called_later files site meaning d.call world later x ops b k d.called)
