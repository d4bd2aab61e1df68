-- A call on a receiver: what it finds, and what becomes of its event.
use Rattle.std.proofs.Common.{◌≡◌, ◌<◌, ◌+◌, ◌^◌, ◌≤◌, if◌then◌else◌, ℕ, zero, suc, List, [], ◌∷◌, ◌++◌, length, take, map, reverse, Bool, true, false, Option, Some, None, Ok, refl, sym, ap, subst, ◌∙◌, arith}
use Rattle.std.specs.Prelude.{slice_get, slice_index_or, unwrap_or}
use Rattle.std.specs.Option.{option_map_or}
use Rattle.std.proofs.lemmas.Bool.{false≢true, and_parts}
use Rattle.std.proofs.lemmas.List.{length-map, length-reverse}
use Rattle.std.proofs.lemmas.Option.{slice_get_within, same_Some}
use Rattle.model.specs.declared.name_method.NameMethod.{NameMethod}
use Rattle.model.specs.declared.object_method.ObjectMethod.TheVariants as asked
use Rattle.model.specs.Names.{Member, java_lang_thread, java_lang_throwable}
use Rattle.model.specs.Classes.{Program, body_of}
use Rattle.model.specs.LimitStands.{Bounds}
use Rattle.model.specs.Types.{Want}
use Rattle.model.specs.DescribedTypes.{parameters_declared, declared_want}
use Rattle.model.specs.Operands.{words, word_reference, pops_meet}
use Rattle.model.specs.Sites.{Leads, MeaningOf, Site}
use Rattle.model.specs.Meanings.{meaning_of}
use Rattle.model.specs.State as model
use Rattle.model.specs.State.{ObjectOf, types_of, FrameOf, StackOf, WorldOf, StateOf}
use Rattle.model.specs.Lookup.{is_static_method, is_abstract_method}
use Rattle.model.specs.Calls.{Chosen, Runs, is_one, parameter_count, argument_wants, of_receiver, call_on}
use Rattle.model.specs.BuiltInMethods.{built_in_method}
use Rattle.model.specs.Step.{SteppedOf, PartOf}
use Rattle.linked_code.specs.declared.instruction.LinkedInstruction.{LinkedInstruction}
use Rattle.linked_code.specs.declared.method.BuiltInMethod.{BuiltInMethod}
use Rattle.linked_code.specs.declared.method.BuiltInMethod.TheVariants as method
use Rattle.linked_code.specs.declared.method.LinkedCode.{LinkedCode}
use Rattle.linked_code.specs.declared.program.LinkedProgram.{LinkedProgram}
use Rattle.linked_code.specs.Linked.{offset_in}
use Rattle.linked_code.specs.Methods.{built_in_of}
use Rattle.linked_code.specs.Selection.{IsChosenAt}
use Rattle.run_laws.specs.word_operands.Operands.{word_meets}
use Rattle.run_laws.specs.word_operands.Receivers.{is_any, has_class_below, is_null_or, receiver, IsReceived}
use Rattle.run_laws.proofs.word_operands.Objects.{received}
use Rattle.run_laws.proofs.typed_threads.Threads.{tables_counted}
use Rattle.thread_stacks.specs.Stacks.{ShownEntry}
use Rattle.machine_state.specs.shown_stacks.Shown.{offset_at}
use Rattle.machine_state.specs.declared.answers.MachineException.TheVariants as exception
use Rattle.machine_state.specs.declared.answers.Effect.{Effect}
use Rattle.machine_state.specs.declared.state.Shared.{Shared}
use Rattle.machine_state.specs.Instructions.{Does, instruction_event}
use Rattle.machine_state.specs.linked_frames.Frames.{IsRunning}
use Rattle.machine_state.proofs.linked_frames.Frames.{top_shown, finds, meaning_is, event_is, offset_is}
use Rattle.machine_instructions.specs.thread_methods.Called.{RefersTo, AreArguments, named_place}
use Rattle.machine_instructions.specs.called_methods.Frames.{object_under, raised_by}
use Rattle.machine_instructions.specs.called_methods.Invoked.{IsInvoking, invoked_event}
use Rattle.machine_instructions.proofs.called_methods.MessageConstructors.{keeps_message}
use Rattle.machine_instructions.proofs.called_methods.BuiltIns.{message_count, cause_count, described_counted, naming_of, receiver_place, placed, string_of, string_counted, writes_of, text_counted, builder_of, builder_counted}
use Rattle.machine_instructions.proofs.called_methods.RunMethods.{raises}

-- ---- lists and words

length_end : {A : Type 0} (xs : List A) (y : A) → length (xs ++ y ∷ []) ≡ length xs + 1
length_end [] y = refl
length_end (x ∷ xs) y = let r = length_end xs y in omega (arith, r)

get_end : {A : Type 0} (xs : List A) (y : A) → slice_get (xs ++ y ∷ []) (length xs) ≡ Some y
get_end [] y = refl
get_end (x ∷ xs) y = get_end xs y

at_last : (k : ℕ) (xs : List ℕ) → slice_index_or (take (suc k) xs) k 0 ≡ slice_index_or xs k 0
at_last zero [] = refl
at_last zero (x ∷ xs) = refl
at_last (suc k) [] = refl
at_last (suc k) (x ∷ xs) = at_last k xs

get_last_taken : (k : ℕ) (xs : List ℕ) → k < length xs → slice_get (take (suc k) xs) k ≡ Some (slice_index_or xs k 0)
get_last_taken zero [] h = absurd (omega (arith, h))
get_last_taken zero (x ∷ xs) h = refl
get_last_taken (suc k) [] h = absurd (omega (arith, h))
get_last_taken (suc k) (x ∷ xs) h = get_last_taken k xs (omega (arith, h))

word_of : (w r : ℕ) → word_reference w ≡ Some r → w ≡ suc r
word_of zero r e = absurd cc
word_of (suc q) r e = ap suc (same_Some q r e)

pub record There (heap : List (ObjectOf ℕ)) (test : ObjectOf ℕ → Bool) (r : ℕ) : Type 0 where
  pub object : ObjectOf ℕ
  pub is : slice_get heap r ≡ Some object
  pub fits : test object ≡ true

there_of : (heap : List (ObjectOf ℕ)) (test : ObjectOf ℕ → Bool) (w r : ℕ) → w ≡ suc r → is_null_or heap test w ≡ true → There heap test r
there_of heap test zero r e h = absurd cc
there_of heap test (suc q) r e h = by (slice_get heap q) refl h
  where
    same : q ≡ r
    same = same_suc q r e
      where
        same_suc : (a b : ℕ) → suc a ≡ suc b → a ≡ b
        same_suc a b p = omega (arith, p)

    by : (o : Option (ObjectOf ℕ)) → slice_get heap q ≡ o → option_map_or test o false ≡ true → There heap test r
    by None p f = absurd (false≢true f)
    by (Some o) p f = record { object = o; is = ap (slice_get heap) (sym same) ∙ p; fits = f }

at_most_one : (b : Bool) → (if b then 0 else 1) ≤ 1
at_most_one true = omega arith
at_most_one false = omega arith

-- ---- the operands of a built-in method that has a receiver under so many parameters

module _ (trees : Program) (heap : List (ObjectOf ℕ)) (stack : List ℕ) (n r : ℕ) (word : slice_get (take (n + 1) stack) n ≡ Some (suc r))
    (object : ObjectOf ℕ) (there : slice_get heap r ≡ Some object)
    (m : Member) (same_count : parameter_count m ≡ n) (thread : (names : NameMethod) → naming_of (built_in_method m) ≡ Some names → has_class_below trees java_lang_thread object ≡ true)
    (throwable : keeps_message (built_in_method m) ≡ true → has_class_below trees java_lang_throwable object ≡ true) where
  refers : (of : BuiltInMethod) → built_in_of of ≡ built_in_method m → (k : ℕ) → receiver_place (built_in_of of) ≡ Some k
      → (test : ObjectOf ℕ → Bool) → test object ≡ true → RefersTo heap (take (n + 1) stack) k test
  refers of e k place test fits =
      let p = placed trees m k (ap receiver_place (sym e) ∙ place) in
      record {
        reference = r;
        word = subst (λ j. slice_get (take (n + 1) stack) j ≡ Some (suc r)) (sym same_count ∙ p.place) word;
        object = object;
        there = there;
        fits = fits;
      }

  -- of a constructor that keeps a message, and has so many parameters
  kept : (of : BuiltInMethod) → built_in_of of ≡ built_in_method m → keeps_message (built_in_of of) ≡ true → (k : ℕ) → parameter_count m ≡ k
      → RefersTo heap (take (n + 1) stack) k (has_class_below trees java_lang_throwable)
  kept of e keeps k count =
      record {
        reference = r;
        word = subst (λ j. slice_get (take (n + 1) stack) j ≡ Some (suc r)) (sym same_count ∙ count) word;
        object = object;
        there = there;
        fits = throwable (ap keeps_message (sym e) ∙ keeps);
      }

  pub arguments_of : (of : BuiltInMethod) → built_in_of of ≡ built_in_method m → AreArguments trees heap (take (n + 1) stack) of
  arguments_of method.Construct e = tt
  arguments_of method.ObjectClone e = refers method.ObjectClone e 0 refl is_any refl
  arguments_of method.ConstructWithMessage e = kept method.ConstructWithMessage e refl 1 (message_count m (sym e))
  arguments_of method.ConstructWithCause e = kept method.ConstructWithCause e refl 2 (cause_count m (sym e))
  arguments_of method.ObjectWait e = refers method.ObjectWait e 0 refl is_any refl
  arguments_of method.ObjectNotify e = refers method.ObjectNotify e 0 refl is_any refl
  arguments_of method.ObjectNotifyAll e = refers method.ObjectNotifyAll e 0 refl is_any refl
  arguments_of method.ThreadStart e = refers method.ThreadStart e 0 refl is_any refl
  arguments_of method.ThreadInterrupt e = refers method.ThreadInterrupt e 0 refl is_any refl
  arguments_of method.ThreadIsInterrupted e = refers method.ThreadIsInterrupted e 0 refl is_any refl
  arguments_of method.ThreadInterrupted e = tt
  arguments_of method.ThreadYield e = tt
  arguments_of method.ThreadCurrentThread e = tt
  arguments_of method.ThreadJoin e = refers method.ThreadJoin e 0 refl is_any refl
  arguments_of method.ThreadIsAlive e = refers method.ThreadIsAlive e 0 refl is_any refl
  arguments_of (method.ThreadNames names) e = refers (method.ThreadNames names) e (named_place names) refl (has_class_below trees java_lang_thread) (thread names (ap naming_of (sym e)))
  arguments_of (method.PrintStreamPrints print) e = let within = slice_get_within (take (n + 1) stack) n (suc r) word in omega (arith, within)
  arguments_of (method.StringAnswers string) e =
      let within = slice_get_within (take (n + 1) stack) n (suc r) word in
      let most = at_most_one (is_one is_static_method trees m) in
      let count = string_counted trees m string (ap string_of (sym e)) in
      omega (arith, within, most, count, same_count)
  arguments_of (method.StringWrites writes) e =
      let within = slice_get_within (take (n + 1) stack) n (suc r) word in
      let most = at_most_one (is_one is_static_method trees m) in
      let count = text_counted trees m writes (ap writes_of (sym e)) in
      omega (arith, within, most, count, same_count)
  arguments_of (method.StringBuilderBuilds builds) e =
      let within = slice_get_within (take (n + 1) stack) n (suc r) word in
      let most = at_most_one (is_one is_static_method trees m) in
      let count = builder_counted trees m builds (ap builder_of (sym e)) in
      omega (arith, within, most, count, same_count)
  arguments_of (method.ObjectAnswers asked.HashCode) e = refers (method.ObjectAnswers asked.HashCode) e 0 refl is_any refl
  arguments_of (method.ObjectAnswers asked.IdentityHashCode) e = let within = slice_get_within (take (n + 1) stack) n (suc r) word in omega (arith, within)
  arguments_of (method.ObjectAnswers asked.GetClass) e = refers (method.ObjectAnswers asked.GetClass) e 0 refl is_any refl
  arguments_of (method.ObjectAnswers asked.ClassName) e = refers (method.ObjectAnswers asked.ClassName) e 0 refl is_any refl
  arguments_of (method.ObjectAnswers asked.Described) e =
      let within = slice_get_within (take (n + 1) stack) n (suc r) word in
      let most = at_most_one (is_one is_static_method trees m) in
      let count = described_counted trees m (sym e) in
      omega (arith, within, most, count, same_count)

-- ---- an instruction where a thread runs

module _ (trees : Program) (p : LinkedProgram) (bounds : Bounds) (inflated : List ℕ) (t : ℕ) (old : Shared) (from : List ShownEntry)
    (state : StateOf ℕ) (frame : FrameOf ℕ) (rest : StackOf ℕ) (code : LinkedCode) (site : Site) (meaning : MeaningOf ℕ)
    (instruction : LinkedInstruction)
    (is : IsRunning trees p bounds inflated t old from state frame rest code site meaning instruction) where
  abbrev pub world : WorldOf ℕ
  world = state.world

  abbrev pub stack : List ℕ
  stack = frame.place.slots.stack

  pub place_within : is.shown.place < 2 ^ 63
  place_within =
      let items = code.instructions in
      let less : is.shown.place < length items.items = slice_get_within items.items is.shown.place instruction is.stands.is in
      let count = items.ok.0 in
      let most = items.ok.1 in
      let small = items.small in
      omega arith

  pub next_offset : (next : ℕ) → next ≡ offset_in code.starts.items (is.shown.place + 1)
      → offset_at p is.shown.method (is.shown.place + 1) ≡ next
  next_offset next e = offset_is trees p bounds inflated t old from state frame rest code site meaning instruction is (is.shown.place + 1) ∙ sym e

  pub under_is : (k : ℕ) → object_under k from ≡ word_reference (slice_index_or stack k 0)
  under_is k =
      ap (object_under k) is.is_stack
      ∙ ap (λ (s : List ℕ). word_reference (slice_index_or s k 0)) (sym (top_shown trees p bounds inflated t old from state frame rest code site meaning instruction is).top.operands)

  pub met : (m : MeaningOf ℕ) → meaning_of words trees site ≡ Some m
      → pops_meet (word_meets trees (types_of world.heap)) m.wants.pops stack ≡ true
  met m e =
      let f = finds trees p bounds inflated t old from state frame rest code site meaning instruction is in
      subst (λ (x : MeaningOf ℕ). pops_meet (word_meets trees (types_of world.heap)) x.wants.pops stack ≡ true) (meaning_is trees p bounds inflated t old from state frame rest code site meaning instruction is m e)
      (and_parts _ _ (and_parts _ _ (and_parts _ _ f.ready).1).1).0

  pub has_monitor : (r : ℕ) → r < length world.heap → r < length old.heap.locks.monitors
  has_monitor r h = subst (λ n. r < n) (sym (ap length is.lent.represents.world_is.monitors ∙ (tables_counted trees state is.lent.typed).monitors)) h

  -- ---- a call on a receiver

  module _ (callee : Member) (want : Want) (leads : Leads) (choose : WorldOf ℕ → ℕ → Chosen) (means : meaning_of words trees site ≡ Some (call_on words trees site callee (want ∷ []) leads choose))
      (parameters : ℕ) (counted : parameters ≡ parameter_count callee) where
    abbrev front : List Want
    front = reverse (map (declared_want trees) (parameters_declared callee.descriptor))

    front_count : length front ≡ parameters
    front_count = length-reverse _ ∙ length-map (parameters_declared callee.descriptor) (declared_want trees) ∙ sym counted

    count_is : length (argument_wants trees callee (want ∷ [])) ≡ parameters + 1
    count_is = length_end front want ∙ ap (λ n. n + 1) front_count

    abbrev event_with : (frames pick : ℕ) → Option ℕ → (operands : ℕ) → SteppedOf (PartOf ℕ)
    event_with frames pick o operands = invoked_event trees frames (record { thread = t; pick = pick }) world frame rest site (unwrap_or o 0) operands (of_receiver o (choose world))

    taken : word_reference (slice_index_or (take (parameters + 1) stack) (parameter_count callee) 0) ≡ object_under parameters from
    taken =
        let next : parameters + 1 ≡ suc parameters = omega arith in
        (λ i. word_reference (slice_index_or (take (next i) stack) (sym counted i) 0))
        ∙ ap word_reference (at_last parameters stack) ∙ sym (under_is parameters)

    pub event_is_call : (frames pick : ℕ) → instruction_event trees frames (record { thread = t; pick = pick }) world frame rest meaning
        ≡ event_with frames pick (object_under parameters from) (parameters + 1)
    event_is_call frames pick =
        event_is trees p bounds inflated t old from state frame rest code site meaning instruction is frames (record { thread = t; pick = pick }) (call_on words trees site callee (want ∷ []) leads choose) means
        ∙ ap (λ n. event_with frames pick (word_reference (slice_index_or (take n stack) (parameter_count callee) 0)) n) count_is
        ∙ ap (λ o. event_with frames pick o (parameters + 1)) taken

    -- null
    pub null_raises : None ≡ object_under parameters from → (frames pick : ℕ) (told : Effect) → told ≡ raised_by pick exception.NullPointer
        → Does trees p bounds inflated t world (model.Invocation frame
        ∷ rest) (instruction_event trees frames (record { thread = t; pick = pick }) world frame rest meaning) (Ok told) old old from from
    null_raises none frames pick told is_told =
        subst (λ (s : SteppedOf (PartOf ℕ)). Does trees p bounds inflated t world (model.Invocation frame ∷ rest) s (Ok told) old old from from)
        (sym (event_is_call frames pick ∙ ap (λ o. event_with frames pick o (parameters + 1)) (sym none)))
        (raises trees p bounds inflated t pick world (model.Invocation frame ∷ rest) exception.NullPointer told is_told old from)

    module _ (r : ℕ) (found : Some r ≡ object_under parameters from) where
      pub calls_event : (operands : ℕ) → operands ≡ parameters + 1 → (frames pick : ℕ)
          → instruction_event trees frames (record { thread = t; pick = pick }) world frame rest meaning
          ≡ invoked_event trees frames (record { thread = t; pick = pick }) world frame rest site r operands (choose world r)
      calls_event operands e frames pick =
          event_is_call frames pick ∙ ap (λ o. event_with frames pick o (parameters + 1)) (sym found)
          ∙ ap (λ n. invoked_event trees frames (record { thread = t; pick = pick }) world frame rest site r n (choose world r)) (sym e)

      word_is : slice_index_or stack parameters 0 ≡ suc r
      word_is = word_of _ r (sym (under_is parameters) ∙ sym found)

      received_at : (test : ObjectOf ℕ → Bool)
          → ((n : ℕ) → word_meets trees (types_of world.heap) want n ≡ true → is_null_or world.heap test n ≡ true)
          → IsReceived world.heap stack (receiver parameters test)
      received_at test each =
          received world.heap trees stack (argument_wants trees callee (want ∷ [])) parameters want test (met (call_on words trees site callee (want ∷ []) leads choose) means)
          (subst (λ n. slice_get (front ++ want ∷ []) n ≡ Some want) front_count (get_end front want)) each

      -- it is there, and as is wanted
      pub there : (test : ObjectOf ℕ → Bool) → ((n : ℕ) → word_meets trees (types_of world.heap) want n ≡ true
          → is_null_or world.heap test n ≡ true) → There world.heap test r
      there test each = there_of world.heap test (slice_index_or stack parameters 0) r word_is (received_at test each).fits

      module _ (test : ObjectOf ℕ → Bool) (each : (n : ℕ) → word_meets trees (types_of world.heap) want n ≡ true → is_null_or world.heap test n ≡ true) where
        word_taken : slice_get (take (parameters + 1) stack) parameters ≡ Some (suc r)
        word_taken =
            let next : parameters + 1 ≡ suc parameters = omega arith in
            ap (λ n. slice_get (take n stack) parameters) next ∙ get_last_taken parameters stack (received_at test each).there ∙ ap (λ w. Some w) word_is

        pub invoking : (number : ℕ) → IsChosenAt trees number (choose world r)
            → site.next ≡ offset_in code.starts.items (is.shown.place + 1)
            → ((m : Member) → choose world r ≡ Runs m
            → (parameter_count m ≡ parameter_count callee)
            × (((names : NameMethod) → naming_of (built_in_method m) ≡ Some names → has_class_below trees java_lang_thread (there test each).object ≡ true)
            × (is_one is_abstract_method trees m ≡ false → body_of trees m ≡ None → keeps_message (built_in_method m) ≡ true
            → has_class_below trees java_lang_throwable (there test each).object ≡ true)))
            → (operands : ℕ) → operands ≡ parameters + 1
            → IsInvoking trees p bounds inflated t old from state frame rest
            site (record { method = number; object = r; operands = operands }) (choose world r)
        invoking number chosen next fits operands e =
            let o = there test each in
            subst (λ n. IsInvoking trees p bounds inflated t old from state frame rest site (record { method = number; object = r; operands = n }) (choose world r)) (sym e)
            (record {
              program = is.program;
              lent = is.lent;
              shown = is.shown;
              others = is.others;
              is_stack = is.is_stack;
              small = place_within;
              goes_on = next_offset site.next next;
              chooses = chosen;
              monitor = has_monitor r (slice_get_within world.heap r o.object o.is);
              arguments = λ m of runs concrete none e.
                  let f = fits m runs in
                  arguments_of trees world.heap stack parameters r word_taken o.object o.is m (f.0 ∙ sym counted) f.1.0 (f.1.1 concrete none) of e;
            })
