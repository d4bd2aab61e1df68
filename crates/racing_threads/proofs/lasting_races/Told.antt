-- In well-typed states with the same words the threads are about to do the same accesses.
use Rattle.std.proofs.Common.{◌≡◌, refl, sym, ◌∙◌, ap, subst, ℕ, List, [], ◌∷◌, ◌++◌, map}
use Rattle.std.specs.Prelude.{Option, Some, None, Bool, true, false, ◌-◌, length, slice_get, IsTrue}
use Rattle.std.proofs.lemmas.List.{length-map}
use Rattle.std.specs.Option.{option_map, option_map_or, option_and_then}
use Rattle.std.proofs.lemmas.Bool.{cond_both}
use Rattle.std.proofs.lemmas.Option.{same_Some, none-some, slice_get-map}
use Rattle.model.specs.declared.builder_method.BuilderMethod.{BuilderMethod}
use Rattle.model.specs.declared.builder_method.BuilderMethod.TheVariants.{ConstructEmpty, ConstructOfString, AppendString, AppendInt, AppendChar, AppendBuilder, ToString}
use Rattle.model.specs.declared.text_method.TextMethod.{TextMethod}
use Rattle.model.specs.declared.text_method.TextMethod.TheVariants as text_method
use Rattle.model.specs.declared.event.Event.{Event}
use Rattle.model.specs.declared.instr.ArrayKind.{ArrayKind}
use Rattle.model.specs.declared.instr.ArrayKind.TheVariants as array_kind
use Rattle.model.specs.declared.instr.FieldAccess.{FieldAccess}
use Rattle.model.specs.declared.instr.FieldAccess.TheVariants as access
use Rattle.model.specs.declared.instr.Instr.{Instr}
use Rattle.model.specs.declared.instr.Instr.TheVariants as instr
use Rattle.model.specs.declared.value.Value.{Value}
use Rattle.model.specs.Arrays.{load_of, store_of}
use Rattle.model.specs.BuiltInMethods.{BuiltInMethod, ObjectClone, StringWrites, StringBuilderBuilds}
use Rattle.model.specs.ClassInitialisation.{look_at}
use Rattle.model.specs.Calls.{argument_wants, of_class, parameter_count}
use Rattle.model.specs.Classes.{Program, body_of}
use Rattle.model.specs.Lookup.{find_field}
use Rattle.model.specs.Meanings.{meaning_of, get_field_of, put_field_of, owner_want}
use Rattle.model.specs.Names.{Name, name_eq, Member, builder_text}
use Rattle.model.specs.Objects.{any_object}
use Rattle.model.specs.Operands.{Slots, words, values, over_words, operands, under, word_of}
use Rattle.model.specs.Outcomes.{OutcomeOf, Goes, Raises, Throws, Interrupts, Calls, Returns, Waits}
use Rattle.model.specs.Pool.{field_at}
use Rattle.model.specs.ReferenceTypes.{Char, Short, Int, ReferenceType, PrimitiveArray, ReferenceArray}
use Rattle.model.specs.Sites.{MeaningOf, Site, site_at, referent, int_operand}
use Rattle.model.specs.State as state
use Rattle.model.specs.State.{ObjectOf, type_of, types_of, Thread, Frame, FrameOf, Initialisation, StackOf, World, WorldOf, State, StateOf}
use Rattle.model.specs.Step.{ops_of}
use Rattle.model.specs.Types.{Want, AReference, AnOwner, AByteArray, value_meets}
use Rattle.model.specs.Words.{map_slots, map_frame}
use Rattle.model.specs.Worlds.{thread_at, object_at, elements_of}
use Rattle.run_laws.specs.laws.Steps.{Rooted}
use Rattle.run_laws.specs.word_runs.Words.{map_outcome}
use Rattle.run_laws.proofs.laws.Lists.{Pairwise}
use Rattle.run_laws.proofs.laws.WordLists.{is_object_want, operands_words, under_words}
use Rattle.run_laws.proofs.laws.StringAnswers.{is_place_of}
use Rattle.run_laws.proofs.typed_runs.Texts.{texts_kept}
use Rattle.run_laws.proofs.word_runs.WordBuiltIns.{object_places, wants_on, agrees_on}
use Rattle.run_laws.proofs.word_runs.WordEvents.{stack_words}
use Rattle.run_laws.proofs.word_runs.WordMeanings.{Kinded, Same, int_words, referent_words}
use Rattle.run_laws.proofs.word_runs.WordTable.{SameIf, meaning_same}
use Rattle.run_laws.proofs.word_runs.WordWorlds.{KeepsTexts, world_words, object_at_words, elements_words, type_words}
use Rattle.data_races.specs.Actions.{Action, Read, Write}
use Rattle.data_races.specs.EventActions.{Instruction, is_ready, operands_of, goes_on, outcome_at, access_by, only_if, is_variable, named_access, field_access, text_access, builder_accesses, elements_accessed, string_accesses, copy_accesses, clone_accesses, built_in_accesses}
use Rattle.data_races.specs.Variables.{Variable, InstanceField, Element}
use Rattle.data_races.proofs.Decided.{In}
use Rattle.data_races.proofs.BuilderCalls.{IsCallOn}
use Rattle.data_races.proofs.BuilderRuns.{Called, builds_by, does_build, kinds_of, wanted}
use Rattle.race_laws.proofs.racy_states.Accesses.{Access, OfInstruction, OfMethod}
use Rattle.race_laws.proofs.racy_states.Stepping.{event_of_thread, IsAt}
use Rattle.search_laws.specs.Alone.{HaveSameWords}
use Rattle.search_laws.proofs.Operands.{kinded}
use Rattle.racing_threads.proofs.lasting_races.Cases.{HoldsOfEach, holds}
use Rattle.racing_threads.proofs.lasting_races.Accesses.{DoesAccess, found}

-- ---- operands

-- operands of either state, each as wanted, with the same words
pub record AreAlike (files : Program) (meaning : MeaningOf Value) (ops others : List Value) : Type 0 where
  pub types : List ReferenceType
  pub kinds : Kinded files types meaning.wants ops
  pub other_types : List ReferenceType
  pub other_kinds : Kinded files other_types meaning.wants others
  pub same : map word_of others ≡ map word_of ops

-- the instruction accesses the same with either
abbrev pub AccessesAlike : Program → Site → Instr → MeaningOf Value → Type 0
AccessesAlike files site i meaning =
    (ops others : List Value) → AreAlike files meaning ops others → access_by files site others i ≡ access_by files site ops i

ints_alike : (ops others : List Value) (k : ℕ) → map word_of others ≡ map word_of ops → int_operand values others k ≡ int_operand values ops k
ints_alike ops others k same = sym (int_words others k) ∙ (ap (λ ns. int_operand words ns k) same ∙ int_words ops k)

referents_alike : (files : Program) (one other : List ReferenceType) (wants : List Want) (ops others : List Value) (k : ℕ) (want : Want)
    → Pairwise (value_meets files one) wants ops → Pairwise (value_meets files other) wants others → map word_of others ≡ map word_of ops
    → slice_get wants k ≡ Some want → is_object_want want ≡ true → referent values others k ≡ referent values ops k
referents_alike files one other wants ops others k want h g same e is =
    sym (referent_words files other wants others k want g e is)
    ∙ (ap (λ ns. referent words ns k) same ∙ referent_words files one wants ops k want h e is)

owner_is_object : (files : Program) (named : Name) (field : Member) → is_object_want (owner_want files named field) ≡ true
owner_is_object files named field =
    cond_both (name_eq named field.class) (AnOwner named) (of_class files named) (λ w. is_object_want w ≡ true) (λ e. refl) (λ e. refl)

-- ---- instructions

static_same : (ops others : List Value) (kind : FieldAccess) (o : Option Member) → ((field : Member) → named_access others kind field ≡ named_access ops kind field)
    → option_map_or (field_access others kind) o [] ≡ option_map_or (field_access ops kind) o []
static_same ops others kind None each = refl
static_same ops others kind (Some field) each = ap (only_if (is_variable field)) (each field)

element_same : (make : Variable → Action) (o p : Option ℕ) (n m : ℕ) → p ≡ o → m ≡ n
    → option_map_or (λ r. make (Element r m) ∷ []) p [] ≡ option_map_or (λ r. make (Element r n) ∷ []) o []
element_same make o p n m e g =
    ap (λ (i : ℕ). option_map_or (λ r. make (Element r i) ∷ []) p []) g ∙ ap (λ (q : Option ℕ). option_map_or (λ r. make (Element r n) ∷ []) q []) e

module _ (files : Program) (site : Site) where
  abbrev named : ℕ → Option Member
  named index = option_and_then (find_field files) (field_at site.body.pool index)

  load_by : (kind : ArrayKind) (want : Want) → slice_get (load_of values files site kind).wants.pops 1 ≡ Some want → is_object_want want ≡ true
      → (ops others : List Value) (one other : List ReferenceType) → Pairwise (value_meets files one) (load_of values files site kind).wants.pops ops
      → Pairwise (value_meets files other) (load_of values files site kind).wants.pops others → map word_of others ≡ map word_of ops
      → access_by files site others (instr.LoadElement kind) ≡ access_by files site ops (instr.LoadElement kind)
  load_by kind want e is ops others one other h g same =
      element_same (λ v. Read v) (referent values ops 1) (referent values others 1) (int_operand values ops 0) (int_operand values others 0)
      (referents_alike files one other (load_of values files site kind).wants.pops ops others 1 want h g same e is) (ints_alike ops others 0 same)

  load_alike : (kind : ArrayKind) → AccessesAlike files site (instr.LoadElement kind) (load_of values files site kind)
  load_alike array_kind.Int ops others x = load_by array_kind.Int (AReference (PrimitiveArray Int)) refl refl ops others x.types x.other_types x.kinds x.other_kinds x.same
  load_alike array_kind.Reference ops others x =
      load_by array_kind.Reference (AReference (ReferenceArray any_object)) refl refl ops others x.types x.other_types x.kinds x.other_kinds x.same
  load_alike array_kind.ByteOrBoolean ops others x = load_by array_kind.ByteOrBoolean AByteArray refl refl ops others x.types x.other_types x.kinds x.other_kinds x.same
  load_alike array_kind.Char ops others x = load_by array_kind.Char (AReference (PrimitiveArray Char)) refl refl ops others x.types x.other_types x.kinds x.other_kinds x.same
  load_alike array_kind.Short ops others x = load_by array_kind.Short (AReference (PrimitiveArray Short)) refl refl ops others x.types x.other_types x.kinds x.other_kinds x.same

  store_by : (kind : ArrayKind) (want : Want) → slice_get (store_of values files site kind).wants.pops 2 ≡ Some want → is_object_want want ≡ true
      → (ops others : List Value) (one other : List ReferenceType) → Pairwise (value_meets files one) (store_of values files site kind).wants.pops ops
      → Pairwise (value_meets files other) (store_of values files site kind).wants.pops others → map word_of others ≡ map word_of ops
      → access_by files site others (instr.StoreElement kind) ≡ access_by files site ops (instr.StoreElement kind)
  store_by kind want e is ops others one other h g same =
      element_same (λ v. Write v) (referent values ops 2) (referent values others 2) (int_operand values ops 1) (int_operand values others 1)
      (referents_alike files one other (store_of values files site kind).wants.pops ops others 2 want h g same e is) (ints_alike ops others 1 same)

  store_alike : (kind : ArrayKind) → AccessesAlike files site (instr.StoreElement kind) (store_of values files site kind)
  store_alike array_kind.Int ops others x = store_by array_kind.Int (AReference (PrimitiveArray Int)) refl refl ops others x.types x.other_types x.kinds x.other_kinds x.same
  store_alike array_kind.Reference ops others x =
      store_by array_kind.Reference (AReference (ReferenceArray any_object)) refl refl ops others x.types x.other_types x.kinds x.other_kinds x.same
  store_alike array_kind.ByteOrBoolean ops others x = store_by array_kind.ByteOrBoolean AByteArray refl refl ops others x.types x.other_types x.kinds x.other_kinds x.same
  store_alike array_kind.Char ops others x = store_by array_kind.Char (AReference (PrimitiveArray Char)) refl refl ops others x.types x.other_types x.kinds x.other_kinds x.same
  store_alike array_kind.Short ops others x = store_by array_kind.Short (AReference (PrimitiveArray Short)) refl refl ops others x.types x.other_types x.kinds x.other_kinds x.same

  get_field_alike : (index : ℕ) (class : Name) (field : Member) → AccessesAlike files site (instr.Field access.GetField index) (get_field_of values files site.next class field)
  get_field_alike index class field ops others x =
      let same = referents_alike files x.types x.other_types (of_class files class ∷ []) ops others 0 (of_class files class) x.kinds x.other_kinds x.same refl refl in
      static_same ops others access.GetField (named index) (λ f. ap (λ (o : Option ℕ). option_map_or (λ r. Read (InstanceField r f) ∷ []) o []) same)

  put_field_alike : (index : ℕ) (class : Name) (field : Member) → AccessesAlike files site (instr.Field access.PutField index) (put_field_of values files site.next class field)
  put_field_alike index class field ops others x =
      let same = referents_alike files x.types x.other_types (put_field_of values files site.next class field).wants.pops ops others 1 (owner_want files class field) x.kinds x.other_kinds x.same refl (owner_is_object files class field) in
      static_same ops others access.PutField (named index) (λ f. ap (λ (o : Option ℕ). option_map_or (λ r. Write (InstanceField r f) ∷ []) o []) same)

  alike_each : HoldsOfEach files site (AccessesAlike files site)
  alike_each =
      record {
        system_stream = λ index stream ops others x. static_same ops others access.GetStatic (named index) (λ f. refl);
        get_static = λ index field ops others x. static_same ops others access.GetStatic (named index) (λ f. refl);
        put_static = λ index field ops others x. static_same ops others access.PutStatic (named index) (λ f. refl);
        get_field = get_field_alike;
        put_field = put_field_alike;
        load = load_alike;
        store = store_alike;
      }

-- ---- outcomes

abbrev onward_of : OutcomeOf ℕ → Bool
onward_of (Goes cost world slots to) = true
onward_of _ = false

onward_words : (o : OutcomeOf Value) → onward_of (map_outcome word_of o) ≡ goes_on o
onward_words (Goes cost world slots to) = refl
onward_words (Raises fault) = refl
onward_words (Throws exception) = refl
onward_words Interrupts = refl
onward_words (Calls callee rest) = refl
onward_words (Returns world results) = refl
onward_words (Waits cost world rest) = refl

by_words : (files : Program) (o : Option (MeaningOf Value)) (p : Option (MeaningOf ℕ)) (v : MeaningOf Value) → SameIf files o p → o ≡ Some v
    → (w : MeaningOf ℕ) × Same files v w
by_words files None p v s e = absurd (none-some v e)
by_words files (Some x) None v s e = absurd s
by_words files (Some x) (Some w) v s e = (w, subst (λ (m : MeaningOf Value). Same files m w) (same_Some x v e) s)

module _ (files : Program) (v : MeaningOf Value) (w : MeaningOf ℕ) (same : Same files v w) (event : Event) where
  -- whether it goes on, by words
  abbrev onward_at : WorldOf ℕ → Slots ℕ → Bool
  onward_at world slots = onward_of (w.does event world slots (operands over_words v.wants slots) (under v.wants slots))

  onward_is : (world : World) (slots : Slots Value) → Kinded files (types_of world.heap) v.wants (ops_of values v slots) → KeepsTexts world
      → onward_at (world_words world) (map_slots word_of slots) ≡ goes_on (v.does event world slots (ops_of values v slots) (under v.wants slots))
  onward_is world slots q texts =
      let ns = map_slots word_of slots in
      ap (λ ops. onward_of (w.does event (world_words world) ns ops (under v.wants ns))) (operands_words v.wants slots)
      ∙ (ap (λ rest. onward_of (w.does event (world_words world) ns (map word_of (ops_of values v slots)) rest)) (under_words v.wants slots)
      ∙ (ap onward_of (same.does event world slots (under v.wants slots) q texts) ∙ onward_words (v.does event world slots (ops_of values v slots) (under v.wants slots))))

-- ---- methods of StringBuilder

module _ (ops others : List Value) where
  text_same : (k : ℕ) (make : Variable → Action) → referent values others k ≡ referent values ops k → text_access others k make ≡ text_access ops k make
  text_same k make e = ap (λ (o : Option ℕ). option_map_or (λ r. make (InstanceField r builder_text) ∷ []) o []) e

  appends_same : referent values others 1 ≡ referent values ops 1
      → text_access others 1 Read ++ text_access others 1 Write ≡ text_access ops 1 Read ++ text_access ops 1 Write
  appends_same e = ap (λ xs. xs ++ text_access others 1 Write) (text_same 1 Read e) ∙ ap (λ xs. text_access ops 1 Read ++ xs) (text_same 1 Write e)

  -- they access the same, where the operands that they take as objects are the same
  builder_same : (b : BuilderMethod)
      → ((k : ℕ) → is_place_of (object_places (StringBuilderBuilds b)) k ≡ true → referent values others k ≡ referent values ops k)
      → builder_accesses others b ≡ builder_accesses ops b
  builder_same ConstructEmpty at = text_same 0 Write (at 0 refl)
  builder_same ConstructOfString at = text_same 1 Write (at 1 refl)
  builder_same AppendString at = appends_same (at 1 refl)
  builder_same AppendInt at = appends_same (at 1 refl)
  builder_same AppendChar at = appends_same (at 1 refl)
  builder_same AppendBuilder at =
      ap (λ xs. xs ++ text_access others 0 Read ++ text_access others 1 Write) (text_same 1 Read (at 1 refl))
      ∙ (ap (λ xs. text_access ops 1 Read ++ xs ++ text_access others 1 Write) (text_same 0 Read (at 0 refl))
      ∙ ap (λ xs. text_access ops 1 Read ++ text_access ops 0 Read ++ xs) (text_same 1 Write (at 1 refl)))
  builder_same ToString at = text_same 0 Read (at 0 refl)

-- ---- other methods without code that access variables

module _ (ops others : List Value) (same : map word_of others ≡ map word_of ops) where
  elements_same : (make : Variable → Action) (o p : Option ℕ) (i j n m : ℕ) → p ≡ o → j ≡ i → m ≡ n
      → option_map_or (λ array. elements_accessed make array j m) p [] ≡ option_map_or (λ array. elements_accessed make array i n) o []
  elements_same make o p i j n m e f g = λ x. option_map_or (λ array. elements_accessed make array (f x) (g x)) (e x) []

  string_same : (method : TextMethod)
      → ((k : ℕ) → is_place_of (object_places (StringWrites method)) k ≡ true → referent values others k ≡ referent values ops k)
      → string_accesses others method ≡ string_accesses ops method
  string_same text_method.ConstructEmpty at = refl
  string_same text_method.ConstructOfString at = refl
  string_same text_method.ConstructOfChars at =
      elements_same (λ v. Read v) (referent values ops 2) (referent values others 2) (int_operand values ops 1) (int_operand values others 1) (int_operand values ops 0) (int_operand values others 0)
      (at 2 refl) (ints_alike ops others 1 same) (ints_alike ops others 0 same)
  string_same text_method.GetChars at =
      elements_same (λ v. Write v) (referent values ops 1) (referent values others 1) (int_operand values ops 0) (int_operand values others 0)
      (int_operand values ops 2 - int_operand values ops 3) (int_operand values others 2 - int_operand values others 3)
      (at 1 refl) (ints_alike ops others 0 same) (λ x. ints_alike ops others 2 same x - ints_alike ops others 3 same x)
  string_same text_method.Intern at = refl

-- the words of a world tell the types of its objects
same_type : (one other : World) (r : ℕ) → world_words other ≡ world_words one → type_of (object_at other r) ≡ type_of (object_at one r)
same_type one other r e =
    sym (type_words (object_at other r))
    ∙ (sym (ap type_of (object_at_words other r))
    ∙ (ap (λ (w : WorldOf ℕ). type_of (object_at w r)) e ∙ (ap type_of (object_at_words one r) ∙ type_words (object_at one r))))

-- and how many elements they have
same_size : (one other : World) (r : ℕ) → world_words other ≡ world_words one → length (elements_of (object_at other r)) ≡ length (elements_of (object_at one r))
same_size one other r e =
    sym (counted other)
    ∙ (ap (λ (w : WorldOf ℕ). length (elements_of (object_at w r))) e ∙ counted one)
  where
    counted : (w : World) → length (elements_of (object_at (world_words w) r)) ≡ length (elements_of (object_at w r))
    counted w =
        ap (λ (o : ObjectOf ℕ). length (elements_of o)) (object_at_words w r)
        ∙ (ap (λ (l : List ℕ). length l) (elements_words (object_at w r)) ∙ length-map (elements_of (object_at w r)) word_of)

module _ (files : Program) (site : Site) (meaning : MeaningOf Value) (c : IsCallOn files site meaning) (one other : World) (same_worlds : world_words other ≡ world_words one)
    (types other_types : List ReferenceType) (ops others : List Value) (kinds : Kinded files types meaning.wants ops)
    (other_kinds : Kinded files other_types meaning.wants others) (same : map word_of others ≡ map word_of ops) where
  record BuildsAlike (b : BuiltInMethod) : Type 0 where
    called : Called files site meaning c other others b
    accesses : built_in_accesses files other others b ≡ built_in_accesses files one ops b

  clone_same : (o : Option ℕ) → option_map_or (clone_accesses files other) o [] ≡ option_map_or (clone_accesses files one) o []
  clone_same None = refl
  clone_same (Some r) = λ x. copy_accesses files r (same_type one other r same_worlds x) (same_size one other r same_worlds x)

  method_same : (b : BuiltInMethod) → ((k : ℕ) → is_place_of (object_places b) k ≡ true → referent values others k ≡ referent values ops k)
      → built_in_accesses files other others b ≡ built_in_accesses files one ops b
  method_same (StringBuilderBuilds method) at = builder_same ops others method at
  method_same (StringWrites method) at = string_same ops others same method at
  method_same ObjectClone at = ap (λ o. option_map_or (clone_accesses files other) o []) (at 0 refl) ∙ clone_same (referent values ops 0)
  method_same _ at = refl

  wants_of_method : (m : Member) → m.descriptor ≡ c.method.descriptor → (objects : List ReferenceType) (vs : List Value) → Kinded files objects meaning.wants vs
      → Pairwise (value_meets files objects) (wants_on files m.descriptor c.receiver) vs
  wants_of_method m e objects vs k =
      subst (λ n. Pairwise (value_meets files objects) (wants_on files n c.receiver) vs) (sym e) (kinds_of files site meaning c objects vs k)

  builds_alike : (b : BuiltInMethod) → Called files site meaning c one ops b → BuildsAlike b
  builds_alike b h =
      let place = parameter_count c.method in
      let wants = argument_wants files c.method (c.receiver ∷ []) in
      let on = referents_alike files types other_types wants ops others place c.receiver (kinds_of files site meaning c types ops kinds)
      (kinds_of files site meaning c other_types others other_kinds) same (wanted files site meaning c) c.object in
      let described = c.describes one h.object h.method h.chosen in
      let agrees = agrees_on files types h.method c.receiver ops c.object (wants_of_method h.method described types ops kinds) in
      let others_agree = agrees_on files other_types h.method c.receiver others c.object (wants_of_method h.method described other_types others other_kinds) in
      let at : (k : ℕ) → is_place_of (object_places b) k ≡ true → referent values others k ≡ referent values ops k =
      λ k p.
      let q = subst (λ m. is_place_of (object_places m) k ≡ true) (sym h.is) p in
      sym (others_agree k q) ∙ (ap (λ ns. referent words ns k) same ∙ agrees k q) in
      record {
        called = record {
          method = h.method;
          no_code = h.no_code;
          is = h.is;
          accesses = h.accesses;
          object = h.object;
          on = on ∙ h.on;
          chosen = c.by_type one other h.object (same_type one other h.object same_worlds) ∙ h.chosen;
        };
        accesses = method_same b at;
      }

-- ---- states

module _ (files : Program) (rooted : Rooted files) (one other : State) (like : HaveSameWords files one other) (t : ℕ) where
  -- the frame on top of the thread's stack in the other state
  record SameFrame (frame : Frame) : Type 0 where
    theirs : Frame
    rest : StackOf Value
    there : slice_get other.stacks t ≡ Some (state.Invocation theirs ∷ rest)
    same : map_frame word_of theirs ≡ map_frame word_of frame

  frame_by : (frame : Frame) (below : StackOf Value) (o : Option (StackOf Value)) → slice_get other.stacks t ≡ o
      → option_map stack_words o ≡ Some (stack_words (state.Invocation frame ∷ below)) → SameFrame frame
  frame_by frame below None e h = absurd (none-some _ h)
  frame_by frame below (Some []) e h = absurd (let q = same_Some [] (stack_words (state.Invocation frame ∷ below)) h in cc)
  frame_by frame below (Some (state.Invocation theirs ∷ rest)) e h =
      let q = same_Some (stack_words (state.Invocation theirs ∷ rest)) (stack_words (state.Invocation frame ∷ below)) h in
      let p : map_frame word_of theirs ≡ map_frame word_of frame = cc in
      record { theirs = theirs; rest = rest; there = e; same = p }
  frame_by frame below (Some (Initialisation class phase ∷ rest)) e h =
      absurd (let q = same_Some (stack_words (Initialisation class phase ∷ rest)) (stack_words (state.Invocation frame ∷ below)) h in cc)

  same_frame : (frame : Frame) (below : StackOf Value) → slice_get one.stacks t ≡ Some (state.Invocation frame ∷ below) → SameFrame frame
  same_frame frame below h =
      frame_by frame below (slice_get other.stacks t) refl
      (sym (slice_get-map stack_words other.stacks t)
      ∙ (ap (λ (w : StateOf ℕ). slice_get w.stacks t) like.same ∙ (slice_get-map stack_words one.stacks t ∙ ap (option_map stack_words) h)))

  same_thread : thread_at other.world t ≡ thread_at one.world t
  same_thread = ap (λ (w : StateOf ℕ). thread_at w.world t) like.same

  same_look : (class : Option Name) → look_at t other.world class ≡ look_at t one.world class
  same_look class = ap (λ (w : StateOf ℕ). look_at t w.world class) like.same

  module _ (a : Action) (d : DoesAccess files one t a) where
    abbrev it : Instruction
    it = d.instruction

    abbrev meaning : MeaningOf Value
    meaning = it.meaning

    abbrev event : Event
    event = event_of_thread t

    x : SameFrame d.at.frame
    x = same_frame d.at.frame d.at.rest d.at.stack

    abbrev slots : Slots Value
    slots = x.theirs.place.slots

    abbrev theirs : Instruction
    theirs = record { site = it.site; meaning = meaning; slots = slots }

    abbrev ops : List Value
    ops = operands_of it

    abbrev others : List Value
    others = operands_of theirs

    same_slots : map_slots word_of slots ≡ map_slots word_of it.slots
    same_slots = ap (λ (f : FrameOf ℕ). f.place.slots) x.same ∙ ap (map_slots word_of) (sym d.at.slots)

    there : IsAt files other t theirs
    there =
        record {
          frame = x.theirs;
          rest = x.rest;
          body = d.at.body;
          stack = x.there;
          running = ap (λ (k : Thread). k.status) same_thread ∙ d.at.running;
          quiet = ap (λ (k : Thread). k.pending) same_thread ∙ d.at.quiet;
          has_body = ap (λ (f : FrameOf ℕ). body_of files f.method) x.same ∙ d.at.has_body;
          at = ap (λ (f : FrameOf ℕ). site_at f.method d.at.body f.place.offset) x.same ∙ d.at.at;
          means = d.at.means;
          slots = refl;
        }

    kinds : Kinded files (types_of one.world.heap) meaning.wants ops
    kinds =
        subst (λ (k : Slots Value). Kinded files (types_of one.world.heap) meaning.wants (ops_of values meaning k)) (sym d.at.slots)
        (kinded files (types_of one.world.heap) meaning.wants d.at.body.code.max_stack d.at.frame.place.slots (found files rooted one like.one_typed t it d.at))

    other_kinds : Kinded files (types_of other.world.heap) meaning.wants others
    unfolding x there
    other_kinds = kinded files (types_of other.world.heap) meaning.wants d.at.body.code.max_stack slots (found files rooted other like.other_typed t theirs there)

    same_ops : map word_of others ≡ map word_of ops
    same_ops = sym (operands_words meaning.wants slots) ∙ (ap (λ k. operands over_words meaning.wants k) same_slots ∙ operands_words meaning.wants it.slots)

    same_accesses : In a (access_by files it.site ops it.site.instr) → access_by files it.site others it.site.instr ≡ access_by files it.site ops it.site.instr
    same_accesses h =
        holds files it.site (AccessesAlike files it.site) (alike_each files it.site) meaning a ops h d.at.means ops others
        (record { types = types_of one.world.heap; kinds = kinds; other_types = types_of other.world.heap; other_kinds = other_kinds; same = same_ops })

    same_access : Access files it a one.world → Access files theirs a other.world
    same_access (OfInstruction h) = OfInstruction (subst (λ l. In a l) (sym (same_accesses h)) h)
    same_access (OfMethod b h g) =
        let build = does_build files it.site meaning d.at.means one.world ops b h in
        let c = build.call in
        let alike = builds_alike files it.site meaning c one.world other.world (ap (λ (w : StateOf ℕ). w.world) like.same) (types_of one.world.heap) (types_of other.world.heap) ops others kinds other_kinds same_ops b build.called in
        OfMethod b (builds_by files it.site meaning c other.world others b alike.called) (subst (λ l. In a l) (sym alike.accesses) g)

    same_onward : goes_on (outcome_at event other.world theirs) ≡ goes_on (outcome_at event one.world it)
    same_onward =
        let w = by_words files (meaning_of values files it.site) (meaning_of words files it.site) meaning (meaning_same files it.site) d.at.means in
        sym (onward_is files meaning w.0 w.1 event other.world slots other_kinds (texts_kept files other.world like.other_typed.heap))
        ∙ (ap (λ (k : StateOf ℕ). onward_at files meaning w.0 w.1 event k.world (map_slots word_of slots)) like.same
        ∙ (ap (λ k. onward_at files meaning w.0 w.1 event (world_words one.world) k) same_slots ∙ onward_is files meaning w.0 w.1 event one.world it.slots kinds (texts_kept files one.world like.one_typed.heap)))

    pub told : DoesAccess files other t a
    told =
        record {
          instruction = theirs;
          at = there;
          accesses = same_access d.accesses;
          done = subst (λ look. IsTrue (is_ready look)) (sym (same_look meaning.looks)) d.done;
          onward = same_onward ∙ d.onward;
        }
