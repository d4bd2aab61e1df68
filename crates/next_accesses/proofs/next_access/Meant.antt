-- What is told of a thread is what its next event reads or writes.
use Rattle.std.proofs.Common.{◌≡◌, refl, sym, ap, subst, ◌∙◌, ℕ, zero, suc, List, [], ◌∷◌, ◌++◌, map, Bool, true, false, if◌then◌else◌, Option, Some, None}
use Rattle.std.specs.Prelude.{◌<◌, IsFalse, not, length, ◌&&◌, ◌⊎◌, slice_get, slice_index_or, unwrap_or}
use Rattle.std.specs.Option.{option_map, option_map_or, option_and_then, option_to_list}
use Rattle.std.proofs.Common.{inl, inr}
use Rattle.std.proofs.lemmas.List.{append-nil, length-map}
use Rattle.std.proofs.lemmas.Option.{same_Some, none-some}
use Rattle.model.specs.declared.event.Event.{Event}
use Rattle.model.specs.declared.builder_method.BuilderMethod.{BuilderMethod}
use Rattle.model.specs.declared.text_method.TextMethod.{TextMethod}
use Rattle.model.specs.Cloning.{cloned, is_cloneable}
use Rattle.model.specs.Outcomes.{OutcomeOf}
use Rattle.model.specs.ReferenceTypes.{ReferenceType}
use Rattle.model.specs.declared.value.Value.{Value}
use Rattle.model.specs.declared.instr.FieldAccess.{FieldAccess}
use Rattle.model.specs.declared.instr.Instr.{Instr}
use Rattle.model.specs.declared.instr.Instr.TheVariants as instr
use Rattle.model.specs.BuiltInMethods.{BuiltInMethod, ObjectClone, StringWrites, StringBuilderBuilds, built_in_does}
use Rattle.model.specs.ClassInitialisation.{look_at}
use Rattle.model.specs.Names.{Member}
use Rattle.model.specs.Opening.{string_reference}
use Rattle.model.specs.Pool.{field_at}
use Rattle.model.specs.Instruction.{Sized, sized_at, instr_at}
use Rattle.model.specs.Classes.{Program, Body, body_of}
use Rattle.model.specs.Lookup.{find_field}
use Rattle.model.specs.LimitStands.{Bounds}
use Rattle.model.specs.Operands.{Slots, values, under, word_of}
use Rattle.model.specs.State as state
use Rattle.model.specs.State.{ObjectOf, type_of, types_of, StackOf, World, State}
use Rattle.model.specs.Worlds.{elements_of, no_object, object_at, thread_at}
use Rattle.model.specs.Sites.{MeaningOf, Site, referent, site_with}
use Rattle.model.specs.Meanings.{meaning_of}
use Rattle.model.specs.Step.{ops_of, stepped}
use Rattle.model.specs.Words.{map_frame, map_stack, map_world, words_of}
use Rattle.run_laws.specs.laws.Steps.{is_wrong}
use Rattle.run_laws.specs.soundness.Runs.{IsNoEventWrong}
use Rattle.run_laws.specs.word_operands.Receivers.{Receiver, receiver_of, IsReceived, AreReceived}
use Rattle.linked_code.specs.declared.program.LinkedProgram.{LinkedProgram}
use Rattle.linked_code.specs.Numbers.{IsMethodAt}
use Rattle.thread_stacks.specs.Stacks.{ShownFrame, ShownEntry, Invocation, IsTopFrame}
use Rattle.heap.specs.java_threads.Table.{thread_at as shown_thread}
use Rattle.machine_state.specs.declared.state.Shared.{Shared}
use Rattle.machine_state.specs.Shown.{IsProgram}
use Rattle.machine_state.specs.shown_stacks.Shown.{ShowsFrame, offset_at}
use Rattle.machine_state.specs.linked_frames.Frames.{AreTopsShown}
use Rattle.machine_state.specs.state_events.Whole.{ShowsStacks}
use Rattle.race_places.specs.declared.run_actions.Action.{Action}
use Rattle.race_places.specs.named_actions.Names.{named_action}
use Rattle.data_races.specs.Actions as named
use Rattle.data_races.specs.EventActions.{Instruction, Rule, Does, Begins, Initialises, Relocks, Other, only_if, is_ready, is_done, goes_on, outcome_at, operands_of, without_code, method_run, built_in_at, built_in_accesses, builder_accesses, access_by, accesses_at, clone_accesses, copy_accesses, rule_by, rule_of, accesses_of}
use Rattle.data_races.proofs.BuilderCalls.{accessing_method, Builds as RunsAccessing}
use Rattle.data_races.proofs.BuilderRuns.{DoesBuild, does_build, does_is, may_is, place_is, receiver_there}
use Rattle.race_laws.proofs.racy_states.Accesses.{kinded}
use Rattle.run_laws.proofs.word_runs.WordBuiltIns.{receiver_place}
use Rattle.run_laws.proofs.word_runs.WordMeanings.{Kinded}
use Rattle.run_laws.proofs.word_runs.WordWorlds.{elements_words, object_words, type_words}
use Rattle.machine_instructions.specs.thread_methods.Called.{text_operands}
use Rattle.machine_state.specs.shown_objects.Shown.{ShowsObjects}
use Rattle.thread_rules.specs.declared.next_rules.NextRule.{NextRule}
use Rattle.thread_rules.specs.declared.next_rules.NextRule.TheVariants as rule
use Rattle.thread_rules.specs.next_rules.Rules.{IsRule}
use Rattle.thread_rules.specs.next_rules.Meant.{IsAtInstruction, MeansRule, AreRulesMeant}
use Rattle.field_names.specs.declared.named_fields.NamedField.{NamedField}
use Rattle.field_names.specs.named_fields.Fields.{IsFieldIf, NamesField, field_named, field_referred, reference_in, names_of}
use Rattle.next_accesses.specs.read_operands.Reads.{IsInt, ReadsAt, AreOperandsRead}
use Rattle.next_accesses.specs.declared.accessing_calls.AccessingMethod.{AccessingMethod}
use Rattle.next_accesses.specs.declared.accessing_calls.AccessingMethod.TheVariants.{Builds, Writes, Clones}
use Rattle.next_accesses.specs.accessing_calls.Called.{as_accessing, TellsAccessing}
use Rattle.next_accesses.specs.builder_texts.Texts.{accesses_in, texts_on}
use Rattle.next_accesses.specs.copied_variables.Copied.{read_by_cloning}
use Rattle.next_accesses.specs.element_ranges.Ranges.{actions_if, chars_accessed}
use Rattle.next_accesses.specs.next_access.Called.{AccessesBy, ClonesIf, ClonesOnTop}
use Rattle.next_accesses.specs.accesses.Accesses.{object_under, IsFieldOf, IsRightIf, IsAccess, TellsAccess}
use Rattle.next_accesses.specs.access_tables.Tables.{IsInstructionAt, IsFieldNamed}
use Rattle.next_accesses.specs.access_conditions.Conditions.{GoesOn}
use Rattle.next_accesses.specs.next_access.Next.{IsReached, accesses_next, AreAccesses, AreNamed, TellsNext, TellsStack, TellsFrame}
use Rattle.next_accesses.proofs.next_access.Stepping.{found, accesses_seen, none_named, none_of_rule}
use Rattle.next_accesses.proofs.builder_texts.Accessed.{ReadsAll, texts_seen, goes_unless}
use Rattle.next_accesses.proofs.builder_texts.Operands.{operands_named, ints_named}
use Rattle.next_accesses.proofs.element_ranges.Chars.{chars_seen}
use Rattle.next_accesses.proofs.next_access.Right.{named_never, right_if, right_none}
use Rattle.next_accesses.proofs.next_access.Passing.{Passes, PassesIf, Given, passes_at}

-- ---- at an instruction

module _ (wrong : IsNoEventWrong) (receives : AreReceived) (reads : AreOperandsRead) (tops : AreTopsShown) (trees : Program) (p : LinkedProgram)
    (shared : Shared) (t : ℕ) (frame : ShownFrame) (bounds : Bounds) (state : State) (r : IsReached trees p bounds shared state) (stack : List ShownEntry)
    (at : IsAtInstruction trees p bounds r.inflated t shared stack state) (top : at.runs.shown ≡ frame) where
  abbrev instruction : Instruction
  instruction = at.instruction

  abbrev site : Site
  site = instruction.site

  abbrev body : Body
  body = at.stands.body

  abbrev offset : ℕ
  offset = at.stands.frame.place.offset

  shows : ShowsFrame trees p at.runs.shown (map_frame word_of at.stands.frame)
  shows = (tops trees p bounds r.inflated t shared stack (words_of state) (map_frame word_of at.stands.frame) at.rest at.code site at.meaning at.linked at.runs).top

  pub operands_are : map word_of instruction.slots.stack ≡ frame.operands
  operands_are = ap (λ (s : Slots Value). map word_of s.stack) at.stands.slots ∙ shows.operands ∙ ap (λ (f : ShownFrame). f.operands) top

  pub numbered : IsMethodAt trees frame.method at.stands.frame.method
  numbered = subst (λ (f : ShownFrame). IsMethodAt trees f.method at.stands.frame.method) top shows.method

  offset_is : offset ≡ offset_at p frame.method frame.place
  offset_is = shows.offset ∙ ap (λ (f : ShownFrame). offset_at p f.method f.place) top

  instr_of : (o : Option Sized) → option_map (site_with at.stands.frame.method body offset) o ≡ Some site → option_map (λ (s : Sized). s.0) o ≡ Some site.instr
  instr_of None e = absurd cc
  instr_of (Some sized) e = ap (λ (s : Site). Some s.instr) (same_Some (site_with at.stands.frame.method body offset sized) site e)

  -- it is the one that is looked up
  pub instr_is : (told : Option Instr) (place : ℕ) → place ≡ offset_at p frame.method frame.place → IsInstructionAt trees frame.method place told → told ≡ Some site.instr
  instr_is told place e h =
      h at.stands.frame.method body numbered at.stands.has_body
      ∙ ap (λ (n : ℕ). instr_at body.code.code n) (e ∙ sym offset_is)
      ∙ instr_of (sized_at body.code.code offset) at.stands.at

  field_of : (told : Option NamedField) (i : Instr) → instr_at body.code.code offset ≡ Some i → NamesField trees frame.method offset told
      → (how : FieldAccess) (index : ℕ) → i ≡ instr.Field how index → IsFieldIf trees (option_and_then (find_field trees) (field_at body.pool index)) told
  field_of told i e h how index is =
      subst (λ (o : Option Member). IsFieldIf trees (option_and_then (find_field trees) o) told) (ap (option_and_then (reference_in body)) (e ∙ ap (λ (x : Instr). Some x) is))
      (h at.stands.frame.method body numbered at.stands.has_body)

  pub body_is : site.body ≡ body
  body_is = by (sized_at body.code.code offset) at.stands.at
    where
      by : (o : Option Sized) → option_map (site_with at.stands.frame.method body offset) o ≡ Some site → site.body ≡ body
      by None e = absurd cc
      by (Some sized) e = ap (λ (s : Site). s.body) (sym (same_Some (site_with at.stands.frame.method body offset sized) site e))

  -- and so is its field
  named_so : (told : Option NamedField) (i : Instr) → site.instr ≡ i → IsFieldNamed trees frame.method offset i told → IsFieldOf trees site i told
  named_so told (instr.Field how index) e h =
      subst (λ (b : Body). IsFieldIf trees (option_and_then (find_field trees) (field_at b.pool index)) told) (sym body_is)
      (field_of told (instr.Field how index) (instr_of (sized_at body.code.code offset) at.stands.at ∙ ap (λ (x : Instr). Some x) e) h how index refl)
  named_so told _ e h = tt

  right : IsFalse (is_wrong (stepped values trees bounds.frames state (record { thread = t; pick = 0 })))
  right = wrong r.files trees r.accepted bounds.frames r.events state (record { thread = t; pick = 0 }) r.reached

  pub finds : values.finds trees (types_of state.world.heap) instruction.meaning.wants body.code.max_stack instruction.slots ≡ true
  finds =
      subst (λ (s : Slots Value). values.finds trees (types_of state.world.heap) instruction.meaning.wants body.code.max_stack s ≡ true) (sym at.stands.slots)
      (found trees bounds.frames state t instruction at.stands right)

  found_there : values.finds trees (types_of state.world.heap) instruction.meaning.wants body.code.max_stack at.stands.frame.place.slots ≡ true
  found_there = found trees bounds.frames state t instruction at.stands right

  pub received : (of : Receiver) → receiver_of trees site site.instr ≡ Some of → IsReceived (map_world word_of state.world).heap (map word_of instruction.slots.stack) of
  received of e =
      subst (λ (s : Slots Value). IsReceived (map_world word_of state.world).heap (map word_of s.stack) of) (sym at.stands.slots)
      (receives r.program.files trees r.program.linkable (words_of state) r.shown.typed t (map_frame word_of at.stands.frame) at.runs.top body site of at.stands.has_body at.stands.at e)

  abbrev accesses : List named.Action
  accesses = access_by trees site (operands_of instruction) site.instr

  abbrev does_so : Bool
  does_so = is_done t state.world instruction && goes_on (outcome_at (record { thread = t; pick = 0 }) state.world instruction)

  -- where it runs no method without code that accesses variables
  abbrev IsPlain : Type 0
  IsPlain = None ≡ option_and_then as_accessing (built_in_at trees state.world instruction)

  no_native : (o : Option BuiltInMethod) → None ≡ option_and_then as_accessing o
      → option_map_or (built_in_accesses trees state.world (operands_of instruction)) o [] ≡ []
  no_native None e = refl
  no_native (Some (StringBuilderBuilds b)) e = absurd (none-some _ e)
  no_native (Some (StringWrites b)) e = absurd (none-some _ e)
  no_native (Some ObjectClone) e = absurd (none-some _ e)
  no_native (Some _) e = refl

  plain_accesses : IsPlain → accesses_at trees state.world instruction ≡ accesses
  plain_accesses plain = ap (λ l. accesses ++ l) (no_native (built_in_at trees state.world instruction) plain) ∙ append-nil accesses

  module _ (plain : IsPlain) (field : Option NamedField) (told : Bool) (goes : GoesOn p shared t frame.operands site.instr field told)
      (of_field : IsFieldOf trees site site.instr field) where
    read : ReadsAt (operands_of instruction) (map word_of instruction.slots.stack) site.instr
    read = reads trees at.stands.frame.method body offset site at.stands.at instruction.meaning at.stands.means state.world body.code.max_stack instruction.slots finds

    passes : PassesIf trees p bounds shared state.world r.program r.shown.represents t body.code.max_stack instruction.slots field site instruction.meaning told
    passes =
        passes_at trees p bounds shared state.world r.program r.shown.represents t body.code.max_stack instruction.slots field at.stands.frame.method body offset
        (sized_at body.code.code offset) site at.stands.at instruction.meaning at.stands.means told
        (record {
          goes = subst (λ (ns : List ℕ). GoesOn p shared t ns site.instr field told) (sym operands_are) goes;
          reads = read;
          of_field = of_field;
          received = received;
          finds = finds;
        })

    nothing : (b : Bool) → accesses ≡ [] → only_if b accesses ≡ []
    nothing true e = e
    nothing false e = refl

    -- the accesses are those that it names, if it is told to go on
    seen : PassesIf trees p bounds shared state.world r.program r.shown.represents t body.code.max_stack instruction.slots field site instruction.meaning told
        → accesses_next trees bounds.frames state t ≡ only_if told accesses
    seen (inl h) =
        accesses_seen trees bounds.frames state t instruction at.stands at.is_rule found_there
        (subst (λ (s : Slots Value). instruction.meaning.may (record { thread = t; pick = 0 }) state.world (ops_of values instruction.meaning s) ≡ true) at.stands.slots h.may)
        ∙ (ap (only_if does_so) (plain_accesses plain) ∙ sym h.is)
    seen (inr e) =
        none_named trees bounds.frames state t instruction at.stands at.is_rule (plain_accesses plain ∙ e)
        ∙ (ap (only_if does_so) (plain_accesses plain) ∙ nothing does_so e ∙ sym (nothing told e))

    abbrev told_if : Bool → Option Action → Option Action
    told_if b access = if b then access else None

    told_so : (b : Bool) (access : Option Action) → map (named_action (names_of trees)) (option_to_list access) ≡ accesses
        → map (named_action (names_of trees)) (option_to_list (told_if b access)) ≡ only_if b accesses
    told_so true access e = e
    told_so false access e = refl

    right_so : (b : Bool) (access : Option Action) → IsRightIf trees access → IsRightIf trees (told_if b access)
    right_so true access h = h
    right_so false access h = tt

    pub tells : (access : Option Action) → TellsAccess frame.operands site.instr field access
        → AreAccesses trees bounds.frames state t (option_to_list (told_if told access))
    tells access h =
        let is = h trees site (operands_of instruction) of_field (subst (λ (ns : List ℕ). ReadsAt (operands_of instruction) ns site.instr) operands_are read) in
        record {
          are = told_so told access is.are ∙ sym (seen passes);
          right = right_if trees (told_if told access) (right_so told access is.right);
        }

    pub silent : told ≡ false → AreAccesses trees bounds.frames state t []
    silent e = record { are = sym (seen passes ∙ ap (λ b. only_if b accesses) e); right = right_none trees }

  -- by the instruction that was looked up
  pub frame_told : IsPlain → (place : ℕ) → place ≡ offset_at p frame.method frame.place → (i : Instr) → site.instr ≡ i → (field : Option NamedField)
      → IsFieldNamed trees frame.method place i field → (told : Bool) → GoesOn p shared t frame.operands i field told → (access : Option Action)
      → TellsAccess frame.operands i field access → AreAccesses trees bounds.frames state t (option_to_list (if told then access else None))
  frame_told plain place e i is field names told goes access h =
      let of_field : IsFieldOf trees site i field = named_so field i is (subst (λ (n : ℕ). IsFieldNamed trees frame.method n i field) (e ∙ sym offset_is) names) in
      tells plain field told (subst (λ (x : Instr). GoesOn p shared t frame.operands x field told) (sym is) goes) (subst (λ (x : Instr). IsFieldOf trees site x field) (sym is) of_field)
      access (subst (λ (x : Instr). TellsAccess frame.operands x field access) (sym is) h)

  pub frame_silent : IsPlain → (place : ℕ) → place ≡ offset_at p frame.method frame.place → (i : Instr) → site.instr ≡ i → (field : Option NamedField)
      → IsFieldNamed trees frame.method place i field → (told : Bool) → GoesOn p shared t frame.operands i field told → told ≡ false
      → AreAccesses trees bounds.frames state t []
  frame_silent plain place e i is field names told goes not_so =
      let of_field : IsFieldOf trees site i field = named_so field i is (subst (λ (n : ℕ). IsFieldNamed trees frame.method n i field) (e ∙ sym offset_is) names) in
      silent plain field told (subst (λ (x : Instr). GoesOn p shared t frame.operands x field told) (sym is) goes) (subst (λ (x : Instr). IsFieldOf trees site x field) (sym is) of_field) not_so

  -- ---- a method without code that accesses variables

  module _ (m : BuiltInMethod) (runs : built_in_at trees state.world instruction ≡ Some m) (accessing : accessing_method m ≡ Some m) where
    abbrev ops : List Value
    ops = operands_of instruction

    abbrev rest : List Value
    rest = under instruction.meaning.wants instruction.slots

    builds : RunsAccessing trees site state.world ops m
    builds = record { runs = runs; accesses = accessing }

    build : DoesBuild trees site instruction.meaning at.stands.means state.world ops m
    build = does_build trees site instruction.meaning at.stands.means state.world ops m builds

    -- its instruction accesses no field and no element
    no_access : (i : Instr) → option_and_then (λ (x : Member). without_code x (body_of trees x)) (method_run trees site state.world ops i) ≡ Some m
        → access_by trees site ops i ≡ []
    no_access (instr.Field how index) e = absurd (none-some _ e)
    no_access (instr.LoadElement kind) e = absurd (none-some _ e)
    no_access (instr.StoreElement kind) e = absurd (none-some _ e)
    no_access _ e = refl

    native_accesses : accesses_at trees state.world instruction ≡ built_in_accesses trees state.world ops m
    native_accesses =
        ap (λ l. l ++ option_map_or (built_in_accesses trees state.world ops) (built_in_at trees state.world instruction) []) (no_access site.instr runs)
        ∙ ap (λ o. option_map_or (built_in_accesses trees state.world ops) o []) runs

    reads_all : ReadsAll frame.operands ops m
    reads_all = subst (λ ns. ReadsAll ns ops m) operands_are (operands_named trees site state.world body.code.max_stack instruction.slots instruction.meaning at.stands.means finds m builds)

    reads_ints : (w : TextMethod) → m ≡ StringWrites w → (k : ℕ) → k < text_operands w → IsInt ops frame.operands k
    reads_ints w e k h =
        subst (λ ns. IsInt ops ns k) operands_are (ints_named trees site state.world body.code.max_stack instruction.slots instruction.meaning at.stands.means finds m builds w e k h)

    abbrev event : Event
    event = record { thread = t; pick = 0 }

    abbrev does : OutcomeOf Value
    does = built_in_does values trees m site.next event state.world instruction.slots ops rest

    goes_so : goes_on (outcome_at event state.world instruction) ≡ goes_on does
    goes_so = ap goes_on (does_is trees site instruction.meaning build.call event state.world ops m build.called instruction.slots rest)

    done_is : is_done t state.world instruction ≡ true
    done_is = ap (λ (x : MeaningOf Value). is_ready (look_at t state.world x.looks)) build.call.is

    may_is_so : instruction.meaning.may event state.world (ops_of values instruction.meaning at.stands.frame.place.slots) ≡ true
    may_is_so =
        subst (λ (s : Slots Value). instruction.meaning.may event state.world (ops_of values instruction.meaning s) ≡ true) at.stands.slots
        (may_is trees site instruction.meaning build.call event state.world ops m build.called)

    all_seen : accesses_next trees bounds.frames state t ≡ only_if (goes_on does) (built_in_accesses trees state.world ops m)
    all_seen =
        accesses_seen trees bounds.frames state t instruction at.stands at.is_rule found_there may_is_so
        ∙ (ap (λ x. only_if (x && goes_on (outcome_at event state.world instruction)) (accesses_at trees state.world instruction)) done_is
        ∙ (ap (λ x. only_if x (accesses_at trees state.world instruction)) goes_so ∙ ap (only_if (goes_on does)) native_accesses))

    native_told : (told : List Action) → AreNamed trees told (only_if (goes_on does) (built_in_accesses trees state.world ops m))
        → AreAccesses trees bounds.frames state t told
    native_told told h = subst (λ l. AreNamed trees told l) (sym all_seen) h

    -- the object on top, where the receiver is that
    abbrev objects : List ReferenceType
    objects = types_of state.world.heap

    kinds : Kinded trees objects instruction.meaning.wants ops
    kinds = kinded trees objects instruction.meaning.wants body.code.max_stack instruction.slots finds

    typed_there : (heap : List (ObjectOf Value)) (k : ℕ) (type : ReferenceType) → slice_get (map type_of heap) k ≡ Some type
        → (o : ObjectOf Value) × (slice_get heap k ≡ Some o)
    typed_there [] k type e = absurd (none-some type e)
    typed_there (o ∷ heap) zero type e = (o, refl)
    typed_there (o ∷ heap) (suc k) type e = typed_there heap k type e

    mapped_there : (heap : List (ObjectOf Value)) (k : ℕ) (o : ObjectOf Value) → slice_get heap k ≡ Some o → slice_get (map object_words heap) k ≡ Some (object_words o)
    mapped_there [] k o e = absurd (none-some o e)
    mapped_there (x ∷ heap) zero o e = ap (λ y. Some (object_words y)) (same_Some x o e)
    mapped_there (x ∷ heap) (suc k) o e = mapped_there heap k o e

    there_index : (heap : List (ObjectOf Value)) (k : ℕ) (o d : ObjectOf Value) → slice_get heap k ≡ Some o → slice_index_or heap k d ≡ o
    there_index [] k o d e = absurd (none-some o e)
    there_index (x ∷ heap) zero o d e = same_Some x o e
    there_index (x ∷ heap) (suc k) o d e = there_index heap k o d e

    record IsThere (x : ℕ) : Type 0 where
      object : ObjectOf Value
      is : object_at state.world x ≡ object
      at_words : slice_get (map_world word_of state.world).heap x ≡ Some (object_words object)

    receiver_is : (place : ℕ) → receiver_place m ≡ Some place → (x : ℕ) → referent values ops place ≡ Some x → IsThere x
    receiver_is place p_is x e =
        let c = build.call in
        let same = place_is trees site instruction.meaning c state.world ops m place p_is build.called in
        let type = receiver_there trees site instruction.meaning c objects ops x kinds (ap (referent values ops) same ∙ e) in
        let there = typed_there state.world.heap x type.0 type.1 in
        record {
          object = there.0;
          is = there_index state.world.heap x there.0 no_object there.1;
          at_words = mapped_there state.world.heap x there.0 there.1;
        }

  -- ---- those that are told of a call

  abbrev ShowsWorld : Type 0
  ShowsWorld = ShowsObjects trees p.components.items shared.heap.objects (map_world word_of state.world).heap

  world_shown : ShowsWorld
  world_shown = r.shown.represents.world_is.objects

  module _ (runs : built_in_at trees state.world instruction ≡ Some ObjectClone) where
    abbrev operands : List Value
    operands = operands_of instruction

    copied_same : (o : ObjectOf Value) (x : ℕ) → read_by_cloning trees x (object_words o)
        ≡ only_if (is_cloneable trees (type_of o)) (copy_accesses trees x (type_of o) (length (elements_of o)))
    copied_same o x =
        let count : length (elements_of (object_words o)) ≡ length (elements_of o) = ap length (elements_words o) ∙ length-map (elements_of o) word_of in
        ap (λ type. only_if (is_cloneable trees type) (copy_accesses trees x type (length (elements_of (object_words o))))) (type_words o)
        ∙ ap (λ n. only_if (is_cloneable trees (type_of o)) (copy_accesses trees x (type_of o) n)) count

    clone_goes : (b : Bool) (o : ObjectOf Value) → goes_on (cloned values b o site.next state.world instruction.slots (under instruction.meaning.wants instruction.slots)) ≡ b
    clone_goes true o = refl
    clone_goes false o = refl

    abbrev SeenOf : Option ℕ → List Action → Type 0
    SeenOf o told =
        AreNamed trees told
        (only_if (goes_on (cloned values (is_cloneable trees (type_of (object_at state.world (unwrap_or o 0)))) (object_at state.world (unwrap_or o 0)) site.next state.world instruction.slots
        (under instruction.meaning.wants instruction.slots)))
        (option_map_or (clone_accesses trees state.world) o []))

    clones_if : (o : Option ℕ) → referent values operands 0 ≡ o → (told : List Action) → ClonesIf trees p shared.heap.objects o told → SeenOf o told
    clones_if None e told h = subst (λ l. SeenOf None l) (sym h) (named_never trees _)
    clones_if (Some x) e told h =
        let there = receiver_is ObjectClone runs refl 0 refl x e in
        let o = object_at state.world x in
        let named : AreNamed trees told (read_by_cloning trees x (object_words there.object)) =
        h r.program (map_world word_of state.world).heap world_shown (object_words there.object) there.at_words in
        subst (λ l. AreNamed trees told l)
        (ap (λ y. read_by_cloning trees x (object_words y)) (sym there.is)
        ∙ (copied_same o x
        ∙ ap (λ b. only_if b (clone_accesses trees state.world x)) (sym (clone_goes (is_cloneable trees (type_of o)) o)))) named

    pub clones_told : (told : List Action) → ClonesOnTop trees p shared.heap.objects frame.operands told → AreAccesses trees bounds.frames state t told
    clones_told told h =
        let e : referent values operands 0 ≡ object_under frame.operands 0 = reads_all ObjectClone runs refl 0 refl in
        native_told ObjectClone runs refl told
        (clones_if (referent values operands 0) refl told (subst (λ o. ClonesIf trees p shared.heap.objects o told) (sym e) h))

  pub texts_told : (b : BuilderMethod) → built_in_at trees state.world instruction ≡ Some (StringBuilderBuilds b)
      → AreAccesses trees bounds.frames state t (accesses_in (texts_on frame.operands b))
  texts_told b runs =
      let m = StringBuilderBuilds b in
      let all = reads_all m runs refl in
      native_told m runs refl (accesses_in (texts_on frame.operands b))
      (subst (λ x. AreNamed trees (accesses_in (texts_on frame.operands b)) (only_if x (builder_accesses (operands_of instruction) b)))
      (sym (goes_unless (string_reference trees []) site.next state.world instruction.slots frame.operands (operands_of instruction) (under instruction.meaning.wants instruction.slots) b all))
      (texts_seen trees frame.operands (operands_of instruction) b all))

  pub chars_told : (w : TextMethod) → built_in_at trees state.world instruction ≡ Some (StringWrites w)
      → AreAccesses trees bounds.frames state t (actions_if (chars_accessed shared.heap.objects frame.operands w))
  chars_told w runs =
      let m = StringWrites w in
      native_told m runs refl (actions_if (chars_accessed shared.heap.objects frame.operands w))
      (chars_seen r.program.files trees r.program.linkable p.components.items shared.heap.objects state.world world_shown frame.operands (operands_of instruction) w site.next
      instruction.slots (under instruction.meaning.wants instruction.slots) w (reads_ints m runs refl w refl) (reads_all m runs refl))

  -- by the method that was told
  by_method : (b : AccessingMethod) (o : Option BuiltInMethod) → built_in_at trees state.world instruction ≡ o → Some b ≡ option_and_then as_accessing o
      → (told : List Action) → AccessesBy trees p shared.heap.objects frame.operands b told → AreAccesses trees bounds.frames state t told
  by_method b None e is told h = absurd (none-some b (sym is))
  by_method b (Some (StringBuilderBuilds x)) e is told h =
      let h_is = subst (λ (c : AccessingMethod). AccessesBy trees p shared.heap.objects frame.operands c told) (same_Some b (Builds x) is) h in
      subst (AreAccesses trees bounds.frames state t) (sym h_is) (texts_told x e)
  by_method b (Some (StringWrites x)) e is told h =
      let h_is = subst (λ (c : AccessingMethod). AccessesBy trees p shared.heap.objects frame.operands c told) (same_Some b (Writes x) is) h in
      subst (AreAccesses trees bounds.frames state t) (sym h_is) (chars_told x e)
  by_method b (Some ObjectClone) e is told h =
      clones_told e told (subst (λ (c : AccessingMethod). AccessesBy trees p shared.heap.objects frame.operands c told) (same_Some b Clones is) h)
  by_method b (Some _) e is told h = absurd (none-some b (sym is))

  pub method_told : (b : AccessingMethod) → Some b ≡ option_and_then as_accessing (built_in_at trees state.world instruction)
      → (told : List Action) → AccessesBy trees p shared.heap.objects frame.operands b told → AreAccesses trees bounds.frames state t told
  method_told b is told h = by_method b (built_in_at trees state.world instruction) refl is told h

-- ---- what a function tells of a frame

module _ (wrong : IsNoEventWrong) (receives : AreReceived) (reads : AreOperandsRead) (tops : AreTopsShown) (trees : Program) (p : LinkedProgram)
    (shared : Shared) (t : ℕ) (frame : ShownFrame) (place : ℕ) (place_is : place ≡ offset_at p frame.method frame.place) where
  pub no_instruction_told : IsInstructionAt trees frame.method place None → TellsFrame trees p shared t frame []
  no_instruction_told h bounds state r stack at top =
      absurd (differs _ (instr_is wrong receives reads tops trees p shared t frame bounds state r stack at top None place place_is h))
    where
      differs : (i : Instr) → None ≡ Some i → ⊥
      differs i e = cc

  -- of a method without code that it runs
  pub called_told : (i : Instr) → IsInstructionAt trees frame.method place (Some i) → (b : AccessingMethod) → TellsAccessing trees p shared t frame i (Some b)
      → (told : List Action) → AccessesBy trees p shared.heap.objects frame.operands b told → TellsFrame trees p shared t frame told
  called_told i looked b runs told h bounds state r stack at top =
      let is = same_Some _ _ (sym (instr_is wrong receives reads tops trees p shared t frame bounds state r stack at top (Some i) place place_is looked)) in
      method_told wrong receives reads tops trees p shared t frame bounds state r stack at top b (runs bounds state r stack at top is) told h

  module _ (i : Instr) (looked : IsInstructionAt trees frame.method place (Some i)) (plain : TellsAccessing trees p shared t frame i None) (field : Option NamedField)
      (names : IsFieldNamed trees frame.method place i field) (told : Bool) (goes : GoesOn p shared t frame.operands i field told) where
    told_with : (access : Option Action) → TellsAccess frame.operands i field access → TellsFrame trees p shared t frame (option_to_list (if told then access else None))
    told_with access h bounds state r stack at top =
        let is = same_Some _ _ (sym (instr_is wrong receives reads tops trees p shared t frame bounds state r stack at top (Some i) place place_is looked)) in
        frame_told wrong receives reads tops trees p shared t frame bounds state r stack at top (plain bounds state r stack at top is) place place_is i is field names told goes access h

    pub goes_told : (access : Option Action) → TellsAccess frame.operands i field access → told ≡ true → TellsFrame trees p shared t frame (option_to_list access)
    goes_told access h e = subst (λ b. TellsFrame trees p shared t frame (option_to_list (if b then access else None))) e (told_with access h)

    pub stays_told : told ≡ false → TellsFrame trees p shared t frame []
    stays_told e bounds state r stack at top =
        let is = same_Some _ _ (sym (instr_is wrong receives reads tops trees p shared t frame bounds state r stack at top (Some i) place place_is looked)) in
        frame_silent wrong receives reads tops trees p shared t frame bounds state r stack at top (plain bounds state r stack at top is) place place_is i is field names told goes e

-- ---- by the rule of a thread

-- the frame on top, where there is one
top_is : (stack : List ShownEntry) (shown : ShownFrame) (others : List ShownEntry) → stack ≡ Invocation shown ∷ others → (found : Option ShownFrame)
    → IsTopFrame stack found → found ≡ Some shown
top_is stack shown others e found h = subst (λ (s : List ShownEntry). IsTopFrame s found) e h

module _ (meant : AreRulesMeant) (trees : Program) (p : LinkedProgram) (shared : Shared) (t : ℕ) (stack : List ShownEntry) (told : NextRule)
    (is : IsRule (shown_thread shared.threads.threads t) stack told) where
  means : slice_get shared.stacks.items t ≡ Some stack → (bounds : Bounds) (state : State) → (r : IsReached trees p bounds shared state)
      → MeansRule trees p bounds r.inflated t shared stack state told
  means e bounds state r = meant trees p bounds r.inflated shared state r.program r.shown t stack e told is

  -- at an instruction, in the frame on top
  pub top_told : told ≡ rule.Bytecode → (frame : ShownFrame) → IsTopFrame stack (Some frame) → (access : List Action)
      → TellsFrame trees p shared t frame access → TellsStack trees p shared t stack access
  top_told by frame top access h e bounds state r =
      let at : IsAtInstruction trees p bounds r.inflated t shared stack state = subst (MeansRule trees p bounds r.inflated t shared stack state) by (means e bounds state r) in
      h bounds state r stack at (sym (same_Some frame at.runs.shown (top_is stack at.runs.shown at.runs.others at.runs.is_stack (Some frame) top)))

  pub no_top : told ≡ rule.Bytecode → IsTopFrame stack None → TellsStack trees p shared t stack []
  no_top by top e bounds state r =
      let at : IsAtInstruction trees p bounds r.inflated t shared stack state = subst (MeansRule trees p bounds r.inflated t shared stack state) by (means e bounds state r) in
      absurd (differs at.runs.shown (top_is stack at.runs.shown at.runs.others at.runs.is_stack None top))
    where
      differs : (frame : ShownFrame) → None ≡ Some frame → ⊥
      differs frame e = cc

  none_at : (bounds : Bounds) (state : State) (m : Rule) → rule_of trees state t ≡ m → ((world : World) → accesses_of trees (record { thread = t; pick = 0 }) world m ≡ [])
      → AreAccesses trees bounds.frames state t []
  none_at bounds state m e none = record { are = sym (none_of_rule trees bounds.frames state t m e none); right = right_none trees }

  -- and else there is none
  by_rule : (other : NextRule) → (other ≡ rule.Bytecode → ⊥) → (bounds : Bounds) (state : State) → (r : IsReached trees p bounds shared state)
      → MeansRule trees p bounds r.inflated t shared stack state other → AreAccesses trees bounds.frames state t []
  by_rule rule.NoEvent n bounds state r m = none_at bounds state Other m (λ world. refl)
  by_rule (rule.Pending exception) n bounds state r m = none_at bounds state Other m (λ world. refl)
  by_rule (rule.Relock object count why) n bounds state r m = none_at bounds state _ m (λ world. refl)
  by_rule rule.Begin n bounds state r m = none_at bounds state Begins m (λ world. refl)
  by_rule (rule.Initialisation number phase) n bounds state r m = none_at bounds state _ m.2 (λ world. refl)
  by_rule rule.Bytecode n bounds state r m = absurd (n refl)

  pub other_told : (told ≡ rule.Bytecode → ⊥) → TellsStack trees p shared t stack []
  other_told n e bounds state r = by_rule told n bounds state r (means e bounds state r)

-- ---- a thread that has no stack

none_shown : (trees : Program) (p : LinkedProgram) (shown : List (List ShownEntry)) (stacks : List (StackOf ℕ)) → ShowsStacks trees p shown stacks → (k : ℕ)
    → slice_get shown k ≡ None → slice_get stacks k ≡ None
none_shown trees p [] [] h k e = refl
none_shown trees p [] (stack ∷ stacks) h k e = absurd h
none_shown trees p (top ∷ shown) [] h k e = absurd h
none_shown trees p (top ∷ shown) (stack ∷ stacks) h zero e = absurd cc
none_shown trees p (top ∷ shown) (stack ∷ stacks) h (suc k) e = none_shown trees p shown stacks h.1 k e

none_mapped : {A B : Type 0} (f : A → B) (xs : List A) (k : ℕ) → slice_get (map f xs) k ≡ None → slice_get xs k ≡ None
none_mapped f [] k e = refl
none_mapped f (x ∷ xs) zero e = absurd cc
none_mapped f (x ∷ xs) (suc k) e = none_mapped f xs k e

pub no_stack : (trees : Program) (p : LinkedProgram) (shared : Shared) (t : ℕ) → slice_get shared.stacks.items t ≡ None → TellsNext trees p shared t []
no_stack trees p shared t e bounds state r =
    let none : slice_get state.stacks t ≡ None =
    none_mapped (map_stack word_of) state.stacks t (none_shown trees p shared.stacks.items (words_of state).stacks r.shown.stacks t e)
    in
    record {
      are = sym (none_of_rule trees bounds.frames state t Other
          (ap (λ o. option_map_or (λ (stack : StackOf Value). rule_by trees (thread_at state.world t) stack (thread_at state.world t).status) o Other) none) (λ world. refl));
      right = right_none trees;
    }
