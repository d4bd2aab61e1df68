-- What an instruction means of monitors is what is told of it.
use Rattle.std.proofs.Common.{◌≡◌, ◌⊎◌, ℕ, zero, suc, ◌<◌, ◌-◌, List, [], ◌∷◌, ◌++◌, length, take, reverse, map, inl, inr, Bool, true, false, Option, Some, None, refl, sym, ap, subst, ◌∙◌, arith}
use Rattle.std.specs.Prelude.{if◌then◌else◌, slice_index_or, unwrap_or}
use Rattle.std.proofs.lemmas.Bool.{false≢true, true≢false}
use Rattle.model.specs.declared.event.Event.{Event}
use Rattle.model.specs.declared.instr.ArrayKind.{ArrayKind}
use Rattle.model.specs.declared.instr.ArrayKind.TheVariants as array_kind
use Rattle.model.specs.declared.instr.Instr.{Instr}
use Rattle.model.specs.declared.instr.Instr.TheVariants as instr
use Rattle.model.specs.declared.instr.Invocation.TheVariants as invocation
use Rattle.model.specs.declared.instr.Returned.{Returned}
use Rattle.model.specs.declared.instr.Returned.TheVariants as returned
use Rattle.model.specs.Names.{Member}
use Rattle.model.specs.Pool.{integers_of}
use Rattle.model.specs.Classes.{Program, Body, body_of}
use Rattle.model.specs.Lookup.{is_static_method}
use Rattle.model.specs.DescribedTypes.{parameters_declared, declared_want}
use Rattle.model.specs.ReferenceTypes.{ClassType, is_subtype, Char, Short, Int, PrimitiveArray, ReferenceArray}
use Rattle.model.specs.Types.{VerificationType, Want, AReceiver, AReference, AByteArray}
use Rattle.model.specs.Operands.{Slots, words, word_reference, under}
use Rattle.model.specs.Rows.{Row, local_row, after_row, row_target}
use Rattle.model.specs.State.{type_of, ObjectOf, FrameOf, WorldOf}
use Rattle.model.specs.Opening.{class_reference, opening_count, string_reference, string_references}
use Rattle.model.specs.Outcomes.{Arithmetic, Free, OutcomeOf, Goes, Raises, Throws, Interrupts, Calls, Returns, Waits, not_null}
use Rattle.model.specs.Worlds.{object_at, is_owner, thread_at, is_alive}
use Rattle.model.specs.Sites.{Leads, pushing, MeaningOf, Site, operand, referent, int_operand}
use Rattle.model.specs.Calls.{leads_after, constructed_leads, call_on, selected, its_class, special_class, if_implements, Chosen, Fails, Runs, is_one, runs, invoked, of_receiver, parameter_count, argument_wants, of_class, of_named, return_of}
use Rattle.model.specs.StringMethods.{StringAnswer, IsNull, IsOutside, Answers, Same, Composes, string_answer}
use Rattle.model.specs.BuilderMethods as builder
use Rattle.model.specs.BuilderMethods.{BuilderAnswer, KeepsEmpty, Keeps, Adds, GivesText, builds, builder_does}
use Rattle.model.specs.BuiltInMethods.{BuiltInMethod, Construct, ConstructWithMessage, ConstructWithCause, ObjectClone, ObjectWait, ObjectNotify, ObjectNotifyAll, ThreadStart, ThreadInterrupt, ThreadIsInterrupted, ThreadInterrupted, ThreadYield, ThreadCurrentThread, ThreadJoin, ThreadIsAlive, ThreadNames, PrintStreamPrints, StringAnswers, StringWrites, StringBuilderBuilds, ObjectAnswers, built_in_method, built_in_does, wait_by, if_owner, start_by, join_by, answered, string_operand, object_of}
use Rattle.model.specs.Cloning.{is_cloneable, cloned}
use Rattle.model.specs.declared.name_method.NameMethod.{NameMethod}
use Rattle.model.specs.declared.name_method.NameMethod.TheVariants as names
use Rattle.model.specs.TextMethods as text
use Rattle.model.specs.TextMethods.{TextAnswer, text_answer, gives_standing, standing_for, units_operand, writes}
use Rattle.model.specs.Texts.{Text}
use Rattle.model.specs.ThreadNames.{gives_name, kept_name, ordinal_text, thread_names}
use Rattle.model.specs.ObjectMethods as telling
use Rattle.model.specs.ObjectMethods.{ObjectAnswer, HasNoClass, IsOf, tells, type_at, object_place, object_answer}
use Rattle.model.specs.Objects.{any_object, cast}
use Rattle.model.specs.Arrays.{an_int, its_component, element_at, load_meaning, stored, kept_by, store_int_meaning, store_reference_meaning, is_negative, made_array, in_range, at_index, load_of, may_stand_in, if_storable, store_of}
use Rattle.model.specs.MonitorMeanings.{left}
use Rattle.model.specs.Meanings.{local_meaning, meaning_of}
use Rattle.model.specs.Step.{ops_of}
use Rattle.run_laws.proofs.laws.Operations.{Operation, OfRow, GetSystemStream, GetStatic, PutStatic, GetField, PutField, Println, CallVirtual, CallConstructor, CallSpecial, CallStatic, CallInterface, Return, LoadClass, LoadString, New, NewArray, NewReferenceArray, ArrayLength, LoadElement, StoreElement, CheckCast, InstanceOf, Throw, MonitorEnter, MonitorExit, operation, OfMeaning, each_meaning}
use Rattle.run_laws.proofs.word_runs.WordBuiltIns.{placed, receiver_place}
use Rattle.thread_stacks.specs.Stacks.{ShownFrame}
use Rattle.monitor_laws.specs.owners.Owners.{monitor_operand, meant_by}
use Rattle.state_actions.specs.meant_before.Said.{said_of, IsSaid, AreInstructionsMeant}

abbrev is_return : Instr → Bool
is_return (instr.Return kind) = true
is_return _ = false

abbrev is_monitor : Instr → Bool
is_monitor instr.MonitorEnter = true
is_monitor instr.MonitorExit = true
is_monitor _ = false

-- the operand is the word on top of the stack
abbrev IsTop : List ℕ → List ℕ → Type 0
IsTop stack ops = slice_index_or ops 0 0 ≡ slice_index_or stack 0 0

top_taken : (n : ℕ) (stack : List ℕ) → 0 < n → IsTop stack (take n stack)
top_taken zero stack h = absurd (omega (arith, h))
top_taken (suc n) [] h = refl
top_taken (suc n) (x ∷ xs) h = refl

-- ---- what becomes of an instruction: it returns if it is a return, and waits for the object on top; what goes on is about a monitor
-- that is on top, or about none

module _ (i : Instr) (stack ops : List ℕ) where
  abbrev Says : OutcomeOf ℕ → Type 0
  Says (Goes cost world slots to) = (is_monitor i ≡ false) ⊎ IsTop stack ops
  Says (Raises fault) = Unit {0}
  Says (Throws exception) = Unit {0}
  Says Interrupts = Unit {0}
  Says (Calls frame rest) = Unit {0}
  Says (Returns world results) = is_return i ≡ true
  Says (Waits cost world rest) = (is_return i ≡ false) × IsTop stack ops

  null_says : (o : Option ℕ) (go : ℕ → OutcomeOf ℕ) → ((r : ℕ) → Says (go r)) → Says (not_null o go)
  null_says None go h = tt
  null_says (Some r) go h = h r

  either_says : (b : Bool) (x y : OutcomeOf ℕ) → Says x → Says y → Says (if b then x else y)
  either_says true x y h g = h
  either_says false x y h g = g

  index_says : (b : Bool) (x : OutcomeOf ℕ) → Says x → Says (at_index b x)
  index_says true x h = h
  index_says false x h = tt

  storable_says : (b : Bool) (x : OutcomeOf ℕ) → Says x → Says (if_storable b x)
  storable_says true x h = h
  storable_says false x h = tt

  -- a monitor that is on top
  left_says : IsTop stack ops → (b : Bool) (next t r : ℕ) (world : WorldOf ℕ) (slots : Slots ℕ) (rest : List ℕ) → Says (left b next t r world slots rest)
  left_says top true next t r world slots rest = inr top
  left_says top false next t r world slots rest = tt

  module _ (plain : is_monitor i ≡ false) where
    cast_says : (b : Bool) (next v : ℕ) (world : WorldOf ℕ) (slots : Slots ℕ) (rest : List ℕ) → Says (cast b next v world slots rest)
    cast_says true next v world slots rest = inl plain
    cast_says false next v world slots rest = tt

    array_says : (negative : Bool) (next count : ℕ) (array : List ℕ → ObjectOf ℕ) (first : ℕ) (world : WorldOf ℕ) (slots : Slots ℕ) (rest : List ℕ)
        → Says (made_array words negative next count array first world slots rest)
    array_says true next count array first world slots rest = tt
    array_says false next count array first world slots rest = inl plain

    -- ---- calls

    owner_says : (b : Bool) (x : OutcomeOf ℕ) → Says x → Says (if_owner b x)
    owner_says true x h = h
    owner_says false x h = tt

    wait_says : (is_return i ≡ false) × IsTop stack ops → (b interrupted : Bool) (t object : ℕ) (world : WorldOf ℕ) (rest : List ℕ)
        → Says (wait_by b interrupted t object world rest)
    wait_says h true true t object world rest = tt
    wait_says h true false t object world rest = h
    wait_says h false interrupted t object world rest = tt

    start_says : (b : Bool) (next object : ℕ) (world : WorldOf ℕ) (slots : Slots ℕ) (rest : List ℕ) → Says (start_by b next object world slots rest)
    start_says true next object world slots rest = tt
    start_says false next object world slots rest = inl plain

    join_says : (b : Bool) (next : ℕ) (world : WorldOf ℕ) (slots : Slots ℕ) (rest : List ℕ) → Says (join_by b next world slots rest)
    join_says true next world slots rest = tt
    join_says false next world slots rest = inl plain

    answered_says : (answer : StringAnswer) (next : ℕ) (world : WorldOf ℕ) (slots : Slots ℕ) (rest : List ℕ) → Says (answered words answer next world slots ops rest)
    answered_says IsNull next world slots rest = tt
    answered_says IsOutside next world slots rest = tt
    answered_says (Answers bits) next world slots rest = inl plain
    answered_says (Same k) next world slots rest = inl plain
    answered_says (Composes text) next world slots rest = inl plain

    builds_says : (empty : ℕ) (answer : BuilderAnswer) (next : ℕ) (world : WorldOf ℕ) (slots : Slots ℕ) (rest : List ℕ)
        → Says (builds words empty answer next world slots ops rest)
    builds_says empty builder.IsNull next world slots rest = tt
    builds_says empty KeepsEmpty next world slots rest = inl plain
    builds_says empty Keeps next world slots rest = inl plain
    builds_says empty (Adds added) next world slots rest = inl plain
    builds_says empty GivesText next world slots rest = inl plain

    tells_says : (files : Program) (answer : ObjectAnswer) (next : ℕ) (world : WorldOf ℕ) (slots : Slots ℕ) (rest : List ℕ)
        → Says (tells words files answer next world slots rest)
    tells_says files telling.IsNull next world slots rest = tt
    tells_says files HasNoClass next world slots rest = tt
    tells_says files (telling.Answers bits) next world slots rest = inl plain
    tells_says files (IsOf class) next world slots rest = inl plain
    tells_says files (telling.Composes text) next world slots rest = inl plain

    clone_says : (may : Bool) (object : ObjectOf ℕ) (next : ℕ) (world : WorldOf ℕ) (slots : Slots ℕ) (rest : List ℕ)
        → Says (cloned words may object next world slots rest)
    clone_says true object next world slots rest = inl plain
    clone_says false object next world slots rest = tt

    given_says : (name : Option ℕ) (text : Text) (next : ℕ) (world : WorldOf ℕ) (slots : Slots ℕ) (rest : List ℕ)
        → Says (gives_name words name text next world slots ops rest)
    given_says None text next world slots rest = inl plain
    given_says (Some name) text next world slots rest = inl plain

    names_says : (called : NameMethod) (next : ℕ) (world : WorldOf ℕ) (slots : Slots ℕ) (rest : List ℕ)
        → Says (thread_names words called next world slots ops rest)
    names_says names.Construct next world slots rest = inl plain
    names_says names.ConstructWithTarget next world slots rest = inl plain
    names_says names.ConstructWithName next world slots rest = null_says (referent words ops 0) _ (λ r. inl plain)
    names_says names.ConstructWithTargetAndName next world slots rest = null_says (referent words ops 0) _ (λ r. inl plain)
    names_says names.GetName next world slots rest =
        given_says (words.referent (kept_name words (object_at world (object_of words ops 0)))) (ordinal_text words (object_at world (object_of words ops 0))) next world slots rest
    names_says names.SetName next world slots rest = null_says (referent words ops 0) _ (λ r. inl plain)

    standing_says : (string : Option ℕ) (next : ℕ) (world : WorldOf ℕ) (slots : Slots ℕ) (rest : List ℕ)
        → Says (gives_standing words string next world slots ops rest)
    standing_says None next world slots rest = inl plain
    standing_says (Some string) next world slots rest = inl plain

    writes_says : (answer : TextAnswer) (opened : ℕ) (constants : List ℕ) (next : ℕ) (world : WorldOf ℕ) (slots : Slots ℕ) (rest : List ℕ)
        → Says (writes words opened constants answer next world slots ops rest)
    writes_says text.IsNull opened constants next world slots rest = tt
    writes_says text.IsOutside opened constants next world slots rest = tt
    writes_says text.IsOutsideArray opened constants next world slots rest = tt
    writes_says (text.Becomes receiver units) opened constants next world slots rest = inl plain
    writes_says (text.Stores array index units) opened constants next world slots rest = inl plain
    writes_says (text.StandsFor units) opened constants next world slots rest = standing_says (standing_for constants world units) next world slots rest

    built_in_says : (files : Program) (b : BuiltInMethod) → (b ≡ ObjectWait → (is_return i ≡ false) × IsTop stack ops) → (next : ℕ) (event : Event) (world : WorldOf ℕ) (slots : Slots ℕ)
        (rest : List ℕ) → Says (built_in_does words files b next event world slots ops rest)
    built_in_says files Construct h next event world slots rest = inl plain
    built_in_says files ConstructWithMessage h next event world slots rest = inl plain
    built_in_says files ConstructWithCause h next event world slots rest = inl plain
    built_in_says files ObjectClone h next event world slots rest =
        clone_says (is_cloneable files (type_of (object_at world (object_of words ops 0)))) (object_at world (object_of words ops 0)) next world slots rest
    built_in_says files ObjectWait h next event world slots rest =
        wait_says (h refl) (is_owner world event.thread (object_of words ops 0)) (thread_at world event.thread).interrupted event.thread (object_of words ops 0) world rest
    built_in_says files ObjectNotify h next event world slots rest = owner_says (is_owner world event.thread (object_of words ops 0)) _ (inl plain)
    built_in_says files ObjectNotifyAll h next event world slots rest = owner_says (is_owner world event.thread (object_of words ops 0)) _ (inl plain)
    built_in_says files ThreadStart h next event world slots rest = start_says _ next (object_of words ops 0) world slots rest
    built_in_says files ThreadInterrupt h next event world slots rest = inl plain
    built_in_says files ThreadIsInterrupted h next event world slots rest = inl plain
    built_in_says files ThreadInterrupted h next event world slots rest = inl plain
    built_in_says files ThreadYield h next event world slots rest = inl plain
    built_in_says files ThreadCurrentThread h next event world slots rest = inl plain
    built_in_says files ThreadJoin h next event world slots rest = join_says (is_alive world (object_of words ops 0)) next world slots rest
    built_in_says files ThreadIsAlive h next event world slots rest = inl plain
    built_in_says files (ThreadNames called) h next event world slots rest = names_says called next world slots rest
    built_in_says files (PrintStreamPrints print) h next event world slots rest = inl plain
    built_in_says files (StringAnswers called) h next event world slots rest =
        answered_says (string_answer called (int_operand words ops) (string_operand words world ops)) next world slots rest
    built_in_says files (StringWrites called) h next event world slots rest =
        writes_says (text_answer called (int_operand words ops) (string_operand words world ops) (units_operand words world ops)) (opening_count files) (string_references files) next world slots rest
    built_in_says files (StringBuilderBuilds called) h next event world slots rest = builds_says (string_reference files []) _ next world slots rest
    built_in_says files (ObjectAnswers called) h next event world slots rest =
        tells_says files (object_answer files called (referent words ops (object_place called)) (type_at world) (int_operand words ops 0)) next world slots rest

    module _ (files : Program) (site : Site) (event : Event) (world : WorldOf ℕ) (slots : Slots ℕ) (rest : List ℕ) (object : ℕ) where
      runs_says : (method : Member) → (built_in_method method ≡ ObjectWait → (is_return i ≡ false) × IsTop stack ops) → (o : Option Body)
          → Says (runs words files site event world slots ops rest object method o)
      runs_says method h None = built_in_says files (built_in_method method) h site.next event world slots rest
      runs_says method h (Some body) = tt

      invoked_says : (chosen : Chosen) → ((method : Member) → built_in_method method ≡ ObjectWait → (is_return i ≡ false) × IsTop stack ops)
          → Says (invoked words files site event world slots ops rest object chosen)
      invoked_says (Fails fault) h = tt
      invoked_says (Runs method) h = runs_says method (h method) (body_of files method)

-- ---- each instruction

some_wanted : (xs : List Want) (w : Want) → 0 < length (xs ++ w ∷ [])
some_wanted [] w = omega arith
some_wanted (x ∷ xs) w = omega (arith, some_wanted xs w)

-- an instruction that has a row of its own is about no monitor
row_plain : (integers : List (Option ℕ)) (code : List ℕ) (offset next : ℕ) (i : Instr) (row : Row) → local_row integers code offset next i ≡ Some row → is_monitor i ≡ false
row_plain integers code offset next instr.MonitorEnter row e = absurd cc
row_plain integers code offset next instr.MonitorExit row e = absurd cc
row_plain integers code offset next _ row e = refl

module _ (files : Program) (site : Site) where
  abbrev SaysAt : MeaningOf ℕ → Type 0
  SaysAt m =
      (event : Event) (world : WorldOf ℕ) (slots : Slots ℕ)
      → Says site.instr slots.stack (ops_of words m slots) (m.does event world slots (ops_of words m slots) (under m.wants slots))

  plain_of : (i : Instr) → site.instr ≡ i → is_monitor i ≡ false → is_monitor site.instr ≡ false
  plain_of i e p = ap is_monitor e ∙ p

  -- the receiver of a method without parameters is on top
  on_top : (method : Member) (w : Want) (stack : List ℕ) → IsTop stack (take (length (argument_wants files method (w ∷ []))) stack)
  on_top method w stack =
      top_taken (length (argument_wants files method (w ∷ []))) stack (some_wanted (reverse (map (declared_want files) (parameters_declared method.descriptor))) w)

  return_says : (kind : Returned) → site.instr ≡ instr.Return kind → SaysAt (return_of words files site.method.descriptor kind)
  return_says returned.Nothing e event world slots = ap is_return e
  return_says returned.Int e event world slots = ap is_return e
  return_says returned.Reference e event world slots = ap is_return e

  -- whatever its operands are
  abbrev AllSay : MeaningOf ℕ → Type 0
  AllSay m = (event : Event) (world : WorldOf ℕ) (slots : Slots ℕ) (ops rest : List ℕ) → Says site.instr slots.stack ops (m.does event world slots ops rest)

  at_its : (m : MeaningOf ℕ) → AllSay m → SaysAt m
  at_its m h event world slots = h event world slots (ops_of words m slots) (under m.wants slots)

  module _ (plain : is_monitor site.instr ≡ false) where
    loads_say : (array : Want) (first : ℕ) (type : List VerificationType → VerificationType) → SaysAt (load_meaning words site array first type)
    loads_say array first type =
        at_its (load_meaning words site array first type)
        (λ event world slots ops rest.
        null_says site.instr slots.stack ops (referent words ops 1) _
        (λ r. index_says site.instr slots.stack ops (in_range world r (int_operand words ops 0))
        (pushing site.next (element_at first world r (int_operand words ops 0) ∷ []) world slots rest) (inl plain)))

    ints_stored_say : (array : Want) → SaysAt (store_int_meaning words site array)
    ints_stored_say array =
        at_its (store_int_meaning words site array)
        (λ event world slots ops rest.
        null_says site.instr slots.stack ops (referent words ops 2) _
        (λ r. index_says site.instr slots.stack ops (in_range world r (int_operand words ops 1))
        (stored site.next world r (int_operand words ops 1) (kept_by words (object_at world r) (operand words ops 0)) slots rest) (inl plain)))

    references_stored_say : SaysAt (store_reference_meaning words files site)
    references_stored_say =
        at_its (store_reference_meaning words files site)
        (λ event world slots ops rest.
        null_says site.instr slots.stack ops (referent words ops 2) _
        (λ r. index_says site.instr slots.stack ops (in_range world r (int_operand words ops 1)) _
        (storable_says site.instr slots.stack ops (may_stand_in words files world (object_at world r) (operand words ops 0))
        (stored site.next world r (int_operand words ops 1) (operand words ops 0) slots rest) (inl plain))))

  load_says : (kind : ArrayKind) → site.instr ≡ instr.LoadElement kind → SaysAt (load_of words files site kind)
  load_says array_kind.Int e = loads_say (ap is_monitor e) (AReference (PrimitiveArray Int)) (words.int 0) an_int
  load_says array_kind.Reference e = loads_say (ap is_monitor e) (AReference (ReferenceArray any_object)) words.over.null (its_component files)
  load_says array_kind.ByteOrBoolean e = loads_say (ap is_monitor e) AByteArray (words.int 0) an_int
  load_says array_kind.Char e = loads_say (ap is_monitor e) (AReference (PrimitiveArray Char)) (words.int 0) an_int
  load_says array_kind.Short e = loads_say (ap is_monitor e) (AReference (PrimitiveArray Short)) (words.int 0) an_int

  store_says : (kind : ArrayKind) → site.instr ≡ instr.StoreElement kind → SaysAt (store_of words files site kind)
  store_says array_kind.Int e = ints_stored_say (ap is_monitor e) (AReference (PrimitiveArray Int))
  store_says array_kind.Reference e = references_stored_say (ap is_monitor e)
  store_says array_kind.ByteOrBoolean e = ints_stored_say (ap is_monitor e) AByteArray
  store_says array_kind.Char e = ints_stored_say (ap is_monitor e) (AReference (PrimitiveArray Char))
  store_says array_kind.Short e = ints_stored_say (ap is_monitor e) (AReference (PrimitiveArray Short))

  -- a call on a receiver
  call_says : (i : Instr) → site.instr ≡ i → is_monitor i ≡ false → is_return i ≡ false → (method : Member) (w : Want) (leads : Leads)
      (choose : WorldOf ℕ → ℕ → Chosen) → SaysAt (call_on words files site method (w ∷ []) leads choose)
  call_says i e p q method w leads choose event world slots =
      let ops = take (length (argument_wants files method (w ∷ []))) slots.stack in
      let receiver = word_reference (operand words ops (parameter_count method)) in
      invoked_says site.instr slots.stack ops (plain_of i e p) files site event world slots (under (call_on words files site method (w ∷ []) leads choose).wants slots)
      (unwrap_or receiver 0) (of_receiver receiver (choose world)) (λ m h. (ap is_return e ∙ q, on_top method w slots.stack))

  -- a static method has no receiver, so it is not `wait`
  static_says : (index : ℕ) → site.instr ≡ instr.Invoke invocation.Static index → (method : Member) → is_one is_static_method files method ≡ true
      → (event : Event) (world : WorldOf ℕ) (slots : Slots ℕ) (ops rest : List ℕ)
      → Says site.instr slots.stack ops (invoked words files site event world slots ops rest (class_reference files method.class) (Runs method))
  static_says index e method static event world slots ops rest =
      runs_says site.instr slots.stack ops (plain_of _ e refl) files site event world slots rest (class_reference files method.class) method
      (λ h. absurd (true≢false (sym static ∙ (placed files method 0 (ap receiver_place h)).instance))) (body_of files method)

  operation_says : (o : Operation files site) → SaysAt (operation words files site o)
  operation_says (OfRow row e) =
      at_its (local_meaning words row)
      (λ event world slots ops rest.
      either_says site.instr slots.stack ops (row.fails (words.words ops)) (Raises Arithmetic) (Goes Free world (after_row words.over row slots) (row_target row (words.words ops))) tt
      (inl (row_plain (integers_of site.body.pool) site.body.code.code site.offset site.next site.instr row e)))
  operation_says (GetSystemStream index stream n) = λ event world slots. inl (plain_of _ n.instruction refl)
  operation_says (GetStatic f) = λ event world slots. inl (plain_of _ f.instruction refl)
  operation_says (PutStatic f) = λ event world slots. inl (plain_of _ f.instruction refl)
  operation_says (GetField f) =
      at_its (operation words files site (GetField f))
      (λ event world slots ops rest. null_says site.instr slots.stack ops (referent words ops 0) _ (λ r. inl (plain_of _ f.instruction refl)))
  operation_says (PutField f) =
      at_its (operation words files site (PutField f))
      (λ event world slots ops rest. null_says site.instr slots.stack ops (referent words ops 1) _ (λ r. inl (plain_of _ f.instruction refl)))
  operation_says (Println call e) =
      at_its (operation words files site (Println call e))
      (λ event world slots ops rest. null_says site.instr slots.stack ops (referent words ops 1) _ (λ r. inl (plain_of _ call.instruction refl)))
  operation_says (CallVirtual call e m) =
      call_says _ call.instruction refl refl m.method (of_named files call.named.class) (leads_after files site m.method)
      (λ world r. selected files (its_class world r) m.method)
  operation_says (CallConstructor call e passes) =
      call_says _ call.instruction refl refl call.named (AReceiver call.named.class) (constructed_leads site call.named) (λ world r. Runs call.named)
  operation_says (CallSpecial call e m) =
      call_says _ call.instruction refl refl m.method (of_class files site.method.class) (leads_after files site m.method)
      (λ world r. selected files (special_class files site.method.class call.named.class) m.method)
  operation_says (CallStatic index i m) = λ event world slots. static_says index i m.method m.passes event world slots _ _
  operation_says (CallInterface call m) =
      call_says _ call.instruction refl refl m.method (of_class files call.named.class) (leads_after files site m.method)
      (λ world r. if_implements (is_subtype files (type_of (object_at world r)) (ClassType call.named.class)) (selected files (its_class world r) m.method))
  operation_says (Return kind i) = return_says kind i
  operation_says (LoadClass constant file e) = λ event world slots. inl (plain_of _ constant.instruction refl)
  operation_says (LoadString constant) = λ event world slots. inl (plain_of _ constant.instruction refl)
  operation_says (New class file e) = λ event world slots. inl (plain_of _ class.instruction refl)
  operation_says (NewArray code of i e) =
      at_its (operation words files site (NewArray code of i e))
      (λ event world slots ops rest.
      array_says site.instr slots.stack ops (plain_of _ i refl) (is_negative (int_operand words ops 0)) site.next (int_operand words ops 0) _ _ world slots rest)
  operation_says (NewReferenceArray class) =
      at_its (operation words files site (NewReferenceArray class))
      (λ event world slots ops rest.
      array_says site.instr slots.stack ops (plain_of _ class.instruction refl) (is_negative (int_operand words ops 0)) site.next (int_operand words ops 0) _ _ world slots rest)
  operation_says (ArrayLength i) =
      at_its (operation words files site (ArrayLength i))
      (λ event world slots ops rest. null_says site.instr slots.stack ops (referent words ops 0) _ (λ r. inl (plain_of _ i refl)))
  operation_says (LoadElement kind i) = load_says kind i
  operation_says (StoreElement kind i) = store_says kind i
  operation_says (CheckCast class) =
      at_its (operation words files site (CheckCast class))
      (λ event world slots ops rest. cast_says site.instr slots.stack ops (plain_of _ class.instruction refl) _ site.next (operand words ops 0) world slots rest)
  operation_says (InstanceOf class) = λ event world slots. inl (plain_of _ class.instruction refl)
  operation_says (Throw i) =
      at_its (operation words files site (Throw i)) (λ event world slots ops rest. null_says site.instr slots.stack ops (referent words ops 0) (λ r. Throws r) (λ r. tt))
  operation_says (MonitorEnter i) = λ event world slots.
      let ops = take 1 slots.stack in
      null_says site.instr slots.stack ops (referent words ops 0) _ (λ r. inr (top_taken 1 slots.stack (omega arith)))
  operation_says (MonitorExit i) = λ event world slots.
      let ops = take 1 slots.stack in
      null_says site.instr slots.stack ops (referent words ops 0) _
      (λ r. left_says site.instr slots.stack ops (top_taken 1 slots.stack (omega arith)) (is_owner world event.thread r) site.next event.thread r world slots _)

  meaning_says : OfMeaning SaysAt (meaning_of words files site)
  meaning_says = each_meaning words files site SaysAt operation_says

-- ---- what is told

top_is : (n : ℕ) → n - 1 ≡ unwrap_or (word_reference n) 0
top_is zero = refl
top_is (suc r) = omega arith

some_top : (o : Option ℕ) (n : ℕ) → Some n ≡ Some (unwrap_or o 0) → IsSaid (Some n) o
some_top None n e = inr refl
some_top (Some r) n e = inl e

module _ (ops : List ℕ) (frame : FrameOf ℕ) (shown : ShownFrame) (entered : frame.entered ≡ shown.entered) (stack : frame.place.slots.stack ≡ shown.operands) where
  returns_said : (i : Instr) → is_return i ≡ true → said_of i shown ≡ shown.entered
  returns_said (instr.Return kind) e = refl
  returns_said _ e = absurd (false≢true e)

  top_said : (i : Instr) → is_return i ≡ false → said_of i shown ≡ Some (slice_index_or shown.operands 0 0 - 1)
  top_said (instr.Return kind) e = absurd (true≢false e)
  top_said _ e = refl

  operand_said : (i : Instr) → is_return i ≡ false → IsTop frame.place.slots.stack ops → said_of i shown ≡ Some (unwrap_or (word_reference (slice_index_or ops 0 0)) 0)
  operand_said i e top =
      top_said i e
      ∙ ap (λ n. Some (n - 1)) (sym (top ∙ ap (λ (l : List ℕ). slice_index_or l 0 0) stack))
      ∙ ap (λ n. Some n) (top_is (slice_index_or ops 0 0))

  goes_said : (i : Instr) → (is_monitor i ≡ false) ⊎ IsTop frame.place.slots.stack ops → IsSaid (said_of i shown) (monitor_operand words ops i)
  goes_said instr.MonitorEnter h = elim h [
    | inl e ↦ absurd (true≢false e)
    | inr top ↦ some_top (word_reference (slice_index_or ops 0 0)) (slice_index_or shown.operands 0 0 - 1) (operand_said instr.MonitorEnter refl top)
  ]
  goes_said instr.MonitorExit h = elim h [
    | inl e ↦ absurd (true≢false e)
    | inr top ↦ some_top (word_reference (slice_index_or ops 0 0)) (slice_index_or shown.operands 0 0 - 1) (operand_said instr.MonitorExit refl top)
  ]
  goes_said _ h = inr refl

  outcome_said : (i : Instr) (o : OutcomeOf ℕ) → Says i frame.place.slots.stack ops o → IsSaid (said_of i shown) (meant_by words i frame ops o)
  outcome_said i (Goes cost world slots to) h = goes_said i h
  outcome_said i (Raises fault) h = inr refl
  outcome_said i (Throws exception) h = inr refl
  outcome_said i Interrupts h = inr refl
  outcome_said i (Calls callee rest) h = inr refl
  outcome_said i (Returns world results) h = inl (returns_said i h ∙ sym entered)
  outcome_said i (Waits cost world rest) h = inl (operand_said i h.0 h.1)

pub meanings_said : AreInstructionsMeant
meanings_said files site meaning is event world frame shown entered stack =
    let says : OfMeaning (SaysAt files site) (Some meaning) = subst (λ (o : Option (MeaningOf ℕ)). OfMeaning (SaysAt files site) o) is (meaning_says files site) in
    let slots = frame.place.slots in
    let ops = ops_of words meaning slots in
    outcome_said ops frame shown entered stack site.instr (meaning.does event world slots ops (under meaning.wants slots)) (says event world slots)
