-- What an instruction of a thread leaves to the others: the monitors that they own, and the initialisation of classes.
use Rattle.std.proofs.Common.{◌≡◌, ℕ, zero, suc, List, [], ◌∷◌, Bool, true, false, if◌then◌else◌, Option, Some, None, refl, sym, ap, ◌∙◌, subst}
use Rattle.std.specs.List.{remove}
use Rattle.std.specs.Option.{option_and_then}
use Rattle.std.specs.Prelude.{◌+◌, ◌-◌, ◌++◌, ◌&&◌, nat_le, take, drop, map, length, slice_get, slice_set, unwrap_or, is_some}
use Rattle.std.proofs.lemmas.Bool.{false≢true, true≢false}
use Rattle.model.specs.declared.event.Event.{Event}
use Rattle.model.specs.declared.instr.ArrayKind.{ArrayKind}
use Rattle.model.specs.declared.instr.ArrayKind.TheVariants as array_kind
use Rattle.model.specs.declared.instr.FieldAccess.TheVariants as access
use Rattle.model.specs.declared.instr.Instr.TheVariants as instr
use Rattle.model.specs.declared.instr.Returned.{Returned}
use Rattle.model.specs.declared.instr.Returned.TheVariants as returned
use Rattle.model.specs.declared.value.Value.{Value}
use Rattle.model.specs.Arrays.{is_negative, made_array, in_range, at_index, element_at, load_of, stored, kept_by, may_stand_in, if_storable, store_of, store_reference_meaning}
use Rattle.model.specs.BuilderMethods as builder
use Rattle.model.specs.BuilderMethods.{built_text, with_string, BuilderAnswer, KeepsEmpty, Keeps, Adds, GivesText, builds}
use Rattle.model.specs.ObjectMethods as telling
use Rattle.model.specs.ObjectMethods.{ObjectAnswer, HasNoClass, IsOf, object_answer, object_place, tells, type_at}
use Rattle.model.specs.BuiltInMethods.{BuiltInMethod, Construct, ConstructWithMessage, ConstructWithCause, ObjectClone, ObjectWait, ObjectNotify, ObjectNotifyAll, ThreadStart, ThreadInterrupt, ThreadIsInterrupted, ThreadInterrupted, ThreadYield, ThreadCurrentThread, ThreadJoin, ThreadIsAlive, ThreadNames, PrintStreamPrints, StringAnswers, StringWrites, StringBuilderBuilds, ObjectAnswers, built_in_method, object_of, string_operand, answered, wait_by, notified_one, notified, notified_all, if_owner, start_by, interrupted_in, interrupted_on, join_by, built_in_does}
use Rattle.model.specs.Calls.{Chosen, Fails, Runs, selected, its_class, special_class, runs, invoked, of_receiver, parameter_count, return_of}
use Rattle.model.specs.Classes.{Program, Body, body_of}
use Rattle.model.specs.Lookup.{find_field, find_method, is_instance_field, is_static_field}
use Rattle.model.specs.AccessFlags.{is_static_method}
use Rattle.model.specs.Pool.{method_at}
use Rattle.run_laws.proofs.laws.Found.{some_from}
use Rattle.model.specs.MonitorMeanings.{left, monitor_exit_meaning}
use Rattle.model.specs.Meanings.{local_meaning, meaning_of}
use Rattle.model.specs.Monitors as monitors
use Rattle.model.specs.Monitors.{Answered, unlocked, owns, monitor_at, as_owner, as_entrant, owned, answers_done, at_object, released, relock_from}
use Rattle.model.specs.HiddenMembers.{is_hidden}
use Rattle.model.specs.Names.{Name, name_eq, Member, member_eq, string_get_chars, thread_target, thread_name, thread_ordinal, throwable_message, throwable_cause, builder_text}
use Rattle.model.specs.Objects.{cast}
use Rattle.model.specs.Opening.{class_reference, string_reference, string_references, opening_count}
use Rattle.model.specs.Operands.{Slots, values}
use Rattle.model.specs.Outcomes.{OutcomeOf, Goes, Raises, Throws, Interrupts, Calls, Returns, Waits, Free, Arithmetic, not_null}
use Rattle.model.specs.Rows.{Row, after_row, row_target}
use Rattle.model.specs.Sites.{MeaningOf, Site, operand, referent, int_operand, pushing}
use Rattle.model.specs.State.{ObjectOf, type_of, Monitor, Waiter, WakeCause, Notified, ThreadStatus, Running, Waiting, Relock, Ended, Thread, World, Characters}
use Rattle.model.specs.ReferenceTypes.{ClassType, is_subtype}
use Rattle.model.specs.Texts.{Text}
use Rattle.model.specs.declared.instr.Invocation.{Invocation}
use Rattle.model.specs.declared.instr.Invocation.TheVariants as invocation
use Rattle.model.specs.declared.text_method.TextMethod.{TextMethod}
use Rattle.model.specs.declared.text_method.TextMethod.TheVariants as text_method
use Rattle.model.specs.declared.name_method.NameMethod.{NameMethod}
use Rattle.model.specs.declared.name_method.NameMethod.TheVariants as naming
use Rattle.model.specs.Cloning.{is_cloneable, cloned}
use Rattle.model.specs.TextMethods as writing
use Rattle.model.specs.TextMethods.{TextAnswer, IsOutsideArray, Becomes, Stores, StandsFor, if_there, text_of_part, if_room, stored_part, text_answer, char_value, units_operand, standing_for, gives_standing, is_blank, with_text_at}
use Rattle.model.specs.ThreadNames.{kept_name, ordinal_text, with_one_unnamed, gives_name, thread_names}
use Rattle.model.specs.StringMethods.{is_at_most, StringAnswer, IsNull, IsOutside, Answers, Same, Composes, string_answer}
use Rattle.model.specs.declared.monitor_answer.MonitorAnswer.TheVariants.{Held, NotOwner}
use Rattle.model.specs.Worlds.{thread_at, with_monitors, with_entry, with_exit, is_owner, object_at, all_woken, woken, waiters_of, thread_of, is_alive, allocated, put_value, with_element, with_elements, with_text, with_field, with_object, value_in, text_of}
use Rattle.run_laws.proofs.laws.Classes.{members_same}
use Rattle.run_laws.proofs.laws.Operations.{NamedField, NamedCall, NamedInterfaceCall, FoundMethod, Operation, OfRow, GetSystemStream, GetStatic, PutStatic, GetField, PutField, Println, CallVirtual, CallConstructor, CallSpecial, CallStatic, CallInterface, Return, LoadClass, LoadString, New, NewArray, NewReferenceArray, ArrayLength, LoadElement, StoreElement, CheckCast, InstanceOf, Throw, MonitorEnter, MonitorExit, operation, OfMeaning, each_meaning}
use Rattle.search_laws.specs.Writes.{Variables, Fields, Statics, Elements, site_written, written_by, written_by_call, put_by, IsUnchanged, KeepsVariables}
use Rattle.search_laws.specs.Texts.{is_unwritten, KeepsTexts}
use Rattle.search_laws.proofs.TextsKept.{texts_same, texts_on, texts_more, texts_set, field_text, element_text, elements_text}
use Rattle.run_laws.proofs.word_runs.WordBuiltIns.{passed}
use Rattle.run_laws.proofs.word_runs.WordCalls.{describes_selected, describes_implements}
use Rattle.run_laws.proofs.word_operands.Receivers.{method_same, interface_method_same}
use Rattle.search_laws.proofs.Owners.{owner_is, differs}
use Rattle.search_laws.proofs.Variables.{unchanged_on, elements_put, text_put, keeps_same, keeps_on, keeps_more, keeps_set, field_put, hidden_put, element_put, value_other}

-- whoever else owns a monitor owns it still
abbrev pub SparesMonitors : ℕ → List Monitor → List Monitor → Type 0
SparesMonitors v before after =
    (u object : ℕ) → (u ≡ v → ⊥) → owns u (monitor_at before object).owner ≡ true → owns u (monitor_at after object).owner ≡ true

-- static fields have their values, but for what is written
abbrev pub SparesStatics : (Variables → Bool) → List (Member × Value) → List (Member × Value) → Type 0
SparesStatics writes before after =
    (field : Member) (first : Value) → writes (Statics field) ≡ false → value_in first field after ≡ value_in first field before

pub record Spares (opened : ℕ) (writes : Variables → Bool) (v : ℕ) (before after : World) : Type 0 where
  pub monitors : SparesMonitors v before.monitors after.monitors
  pub classes : after.classes ≡ before.classes
  pub variables : KeepsVariables writes before.heap after.heap
  pub texts : KeepsTexts opened before.heap after.heap
  pub statics : SparesStatics writes before.statics after.statics

-- ---- getChars

abbrev as_get_chars : BuiltInMethod → Option (Unit {0})
as_get_chars (StringWrites text_method.GetChars) = Some tt
as_get_chars _ = None

-- the method that runs has the descriptor of the one that is named
abbrev Describes : Name → Chosen → Type 0
Describes descriptor (Fails fault) = Unit {0}
Describes descriptor (Runs method) = method.descriptor ≡ descriptor

-- ---- a monitor

module _ (opened : ℕ) (writes : Variables → Bool) (v : ℕ) where
  -- what the thread asks of a monitor leaves another owner
  abbrev Leaves : (Monitor → Answered Monitor) → Type 0
  Leaves call = (m : Monitor) (u : ℕ) → (u ≡ v → ⊥) → owns u m.owner ≡ true → owns u (call m).after.owner ≡ true

  enter_leaves : Leaves (monitors.monitor_enter v)
  enter_leaves m u ne own =
      let free = answers_done (owned m v 1) in
      let again = answers_done (owned m v (m.count + 1)) in
      let held : Answered Monitor = record { answer = Held; after = m } in
      let is : (monitors.monitor_enter v m).after.owner ≡ m.owner =
      ap (λ o. (as_entrant v o m free again).after.owner) (owner_is u m.owner own)
      ∙ ap (λ (b : Bool). (if b then again else held).after.owner) (differs u v ne)
      in
      ap (owns u) is ∙ own

  owner_leaves : (after : Monitor → Monitor) → Leaves (λ m. as_owner v m (after m))
  owner_leaves after m u ne own =
      let none : Answered Monitor = record { answer = NotOwner; after = m } in
      let is : (as_owner v m (after m)).after.owner ≡ m.owner =
      ap (λ o. (if owns v o then answers_done (after m) else none).after.owner) (owner_is u m.owner own)
      ∙ ap (λ (b : Bool). (if b then answers_done (after m) else none).after.owner) (differs u v ne)
      in
      ap (owns u) is ∙ own

  relock_leaves : (count : ℕ) → Leaves (monitors.monitor_relock v count)
  relock_leaves count m u ne own =
      let is : (monitors.monitor_relock v count m).after.owner ≡ m.owner =
      ap (λ o. (relock_from o m (answers_done (owned m v count))).after.owner) (owner_is u m.owner own)
      in
      ap (owns u) is ∙ own

  -- ---- all monitors

  set_at : (ms : List Monitor) (k j : ℕ) (x : Monitor) (P : Monitor → Type 0) → P (monitor_at ms j) → (k ≡ j → P x)
      → P (monitor_at (slice_set ms k x) j)
  set_at [] k j x P h g = h
  set_at (m ∷ ms) zero zero x P h g = g refl
  set_at (m ∷ ms) zero (suc j) x P h g = h
  set_at (m ∷ ms) (suc k) zero x P h g = h
  set_at (m ∷ ms) (suc k) (suc j) x P h g = set_at ms k j x P h (λ e. g (ap suc e))

  added : (ms : List Monitor) (j u : ℕ) → owns u (monitor_at ms j).owner ≡ true → owns u (monitor_at (ms ++ unlocked ∷ []) j).owner ≡ true
  added [] zero u h = absurd (false≢true h)
  added [] (suc j) u h = absurd (false≢true h)
  added (m ∷ ms) zero u h = h
  added (m ∷ ms) (suc j) u h = added ms j u h

  called : (before : World) (world : World) (object : ℕ) (call : Monitor → Answered Monitor) → Leaves call → Spares opened writes v before world
      → Spares opened writes v before (with_monitors world (at_object object call world.monitors))
  called before world object call leaves s =
      record {
        monitors = λ u o ne own.
            let h = s.monitors u o ne own in
            set_at world.monitors object o (call (monitor_at world.monitors object)).after (λ m. owns u m.owner ≡ true) h
            (λ e. leaves (monitor_at world.monitors object) u ne (ap (λ k. owns u (monitor_at world.monitors k).owner) e ∙ h));
        classes = s.classes;
        variables = s.variables;
        texts = s.texts;
        statics = s.statics;
      }

  -- what is written is among these
  abbrev pub Permits : Option Variables → Type 0
  Permits o = (variables : Variables) → o ≡ Some variables → writes variables ≡ true

  -- ---- a world

  pub itself : (world : World) → Spares opened writes v world world
  itself world = record { monitors = λ u o ne own. own; classes = refl; variables = keeps_same writes world.heap; texts = texts_same opened world.heap; statics = λ field first n. refl }

  -- the threads have no part in it
  pub threads_aside : (before world : World) (threads : List Thread) → Spares opened writes v before world
      → Spares opened writes v before (record world { threads = threads })
  threads_aside before world threads s = record { monitors = s.monitors; classes = s.classes; variables = s.variables; texts = s.texts; statics = s.statics }

  pub with_object_made : (before world : World) (object : ObjectOf Value) → Spares opened writes v before world → Spares opened writes v before (allocated world object)
  with_object_made before world object s =
      record {
        monitors = λ u o ne own. added world.monitors o u (s.monitors u o ne own);
        classes = s.classes;
        variables = keeps_on writes before.heap world.heap (world.heap ++ object ∷ []) s.variables (keeps_more writes world.heap object);
        texts = texts_on opened before.heap world.heap (world.heap ++ object ∷ []) s.texts (texts_more opened world.heap object);
        statics = s.statics;
      }

  -- an object is changed in what the thread may write, or gets the text that a String may still get
  object_set_on : (before world : World) (r : ℕ) (object : ObjectOf Value) → IsUnchanged writes (object_at world r) object
      → (is_unwritten opened r (object_at world r) ≡ false → text_of object ≡ text_of (object_at world r)) → Spares opened writes v before world
      → Spares opened writes v before (with_object world r object)
  object_set_on before world r object same text s =
      record {
        monitors = s.monitors;
        classes = s.classes;
        variables = keeps_on writes before.heap world.heap (slice_set world.heap r object) s.variables (keeps_set writes world.heap r object same);
        texts = texts_on opened before.heap world.heap (slice_set world.heap r object) s.texts (texts_set opened world.heap r object text);
        statics = s.statics;
      }

  with_object_set : (world : World) (r : ℕ) (object : ObjectOf Value) → IsUnchanged writes (object_at world r) object
      → text_of object ≡ text_of (object_at world r) → Spares opened writes v world (with_object world r object)
  with_object_set world r object same text = object_set_on world world r object same (λ q. text) (itself world)

  -- a hidden field of an object is set
  hidden_set_on : (before world : World) (field : Member) (value : Value) (r : ℕ) → is_hidden field ≡ true → Spares opened writes v before world
      → Spares opened writes v before (with_object world r (with_field field value (object_at world r)))
  hidden_set_on before world field value r hidden s =
      object_set_on before world r (with_field field value (object_at world r)) (hidden_put writes field value (object_at world r) hidden) (λ q. field_text field value (object_at world r)) s

  -- and two of them
  two_set_on : (before world : World) (one other : Member) (value second : Value) (r : ℕ) → is_hidden one ≡ true → is_hidden other ≡ true
      → Spares opened writes v before world → Spares opened writes v before (with_object world r (with_field other second (with_field one value (object_at world r))))
  two_set_on before world one other value second r hidden also s =
      let object = object_at world r in
      let told = with_field one value object in
      object_set_on before world r (with_field other second told)
      (unchanged_on writes object told (with_field other second told) (hidden_put writes one value object hidden) (hidden_put writes other second told also))
      (λ q. field_text other second told ∙ field_text one value object) s

  -- the text of a StringBuilder is hidden
  with_string_put : (before world : World) (builder : ℕ) (string : Value) → Spares opened writes v before world
      → Spares opened writes v before (with_string world builder string)
  with_string_put before world builder string s = hidden_set_on before world builder_text string builder refl s

  pub entry_spares : (before world : World) (r : ℕ) → Spares opened writes v before world → Spares opened writes v before (with_entry world v r)
  entry_spares before world r s = called before world r (monitors.monitor_enter v) enter_leaves s

  pub exit_spares : (before world : World) (r : ℕ) → Spares opened writes v before world → Spares opened writes v before (with_exit world v r)
  exit_spares before world r s =
      called before world r (monitors.monitor_exit v) (owner_leaves (λ m. released m (m.count - 1))) s

  pub relock_spares : (before world : World) (r count : ℕ) → Spares opened writes v before world
      → Spares opened writes v before (with_monitors world (monitors.relock r v count world.monitors))
  relock_spares before world r count s = called before world r (monitors.monitor_relock v count) (relock_leaves count) s

  woken_spares : (before : World) (object : ℕ) (cause : WakeCause) (ws : List Waiter) (world : World) → Spares opened writes v before world
      → Spares opened writes v before (all_woken object cause world ws)
  woken_spares before object cause [] world s = s
  woken_spares before object cause (w ∷ ws) world s =
      woken_spares before object cause ws (woken object cause world w)
      (threads_aside before world (slice_set world.threads w.thread (record (thread_at world w.thread) { status = Relock object w.count cause })) s)

  pub all_leave : (before world : World) (object : ℕ) → Spares opened writes v before world
      → Spares opened writes v before (all_woken object Notified (with_monitors world (monitors.wake_all object world.monitors)) (waiters_of world object))
  all_leave before world object s =
      woken_spares before object Notified (waiters_of world object) (with_monitors world (monitors.wake_all object world.monitors))
      (called before world object monitors.monitor_wake_all (λ m u ne own. own) s)

  -- ---- outcomes

  abbrev pub OutcomeSpares : World → OutcomeOf Value → Type 0
  OutcomeSpares world (Goes cost after slots to) = Spares opened writes v world after
  OutcomeSpares world (Raises fault) = Unit {0}
  OutcomeSpares world (Throws exception) = Unit {0}
  OutcomeSpares world Interrupts = Unit {0}
  OutcomeSpares world (Calls frame rest) = Unit {0}
  OutcomeSpares world (Returns after results) = Spares opened writes v world after
  OutcomeSpares world (Waits cost after rest) = Spares opened writes v world after

  module _ (world : World) where
    abbrev Ok : OutcomeOf Value → Type 0
    Ok = OutcomeSpares world

    not_null_ok : (o : Option ℕ) (go : ℕ → OutcomeOf Value) → ((r : ℕ) → Ok (go r)) → Ok (not_null o go)
    not_null_ok None go h = tt
    not_null_ok (Some r) go h = h r

    either_ok : (b : Bool) (x y : OutcomeOf Value) → Ok x → Ok y → Ok (if b then x else y)
    either_ok true x y h g = h
    either_ok false x y h g = g

    index_ok : (b : Bool) (x : OutcomeOf Value) → Ok x → Ok (at_index b x)
    index_ok true x h = h
    index_ok false x h = tt

    storable_ok : (b : Bool) (x : OutcomeOf Value) → Ok x → Ok (if_storable b x)
    storable_ok true x h = h
    storable_ok false x h = tt

    owner_ok : (b : Bool) (x : OutcomeOf Value) → Ok x → Ok (if_owner b x)
    owner_ok true x h = h
    owner_ok false x h = tt

    cast_ok : (b : Bool) (next : ℕ) (value : Value) (slots : Slots Value) (rest : List Value) → Ok (cast b next value world slots rest)
    cast_ok true next value slots rest = itself world
    cast_ok false next value slots rest = tt

    left_ok : (b : Bool) (next r : ℕ) (slots : Slots Value) (rest : List Value) → Ok (left b next v r world slots rest)
    left_ok true next r slots rest = exit_spares world world r (itself world)
    left_ok false next r slots rest = tt

    array_ok : (negative : Bool) (next count : ℕ) (array : List Value → ObjectOf Value) (first : Value) (slots : Slots Value)
        (rest : List Value) → Ok (made_array values negative next count array first world slots rest)
    array_ok true next count array first slots rest = tt
    array_ok false next count array first slots rest = with_object_made world world _ (itself world)

    same_ok : Spares opened writes v world world
    same_ok = itself world

    -- ---- methods of the machine

    wait_ok : (owner interrupted : Bool) (object : ℕ) (rest : List Value) → Ok (wait_by owner interrupted v object world rest)
    wait_ok false interrupted object rest = tt
    wait_ok true true object rest = tt
    wait_ok true false object rest =
        let left = with_monitors world (monitors.wait object v world.monitors) in
        let s = called world world object (monitors.monitor_wait v) (owner_leaves (λ m. record { owner = None; count = 0; waiters = m.waiters ++ record { thread = v; count = m.count } ∷ [] })) same_ok in
        threads_aside world left (slice_set left.threads v (record (thread_at left v) { status = Waiting object (monitor_at world.monitors object).count })) s

    notified_ok : (object pick : ℕ) → Spares opened writes v world (notified world v object pick)
    notified_ok object pick = by (slice_get (waiters_of world object) pick)
      where
        one : Spares opened writes v world (with_monitors world (monitors.notify object v pick world.monitors))
        one = called world world object (monitors.monitor_notify v pick) (owner_leaves (λ m. record m { waiters = remove m.waiters pick })) same_ok

        by : (o : Option Waiter)
            → Spares opened writes v world (notified_one (with_monitors world (monitors.notify object v pick world.monitors)) object o)
        by None = one
        by (Some w) = record { monitors = one.monitors; classes = one.classes; variables = one.variables; texts = one.texts; statics = one.statics }

    notified_all_ok : (object : ℕ) → Spares opened writes v world (notified_all world v object)
    notified_all_ok object =
        woken_spares world object Notified (waiters_of world object) (with_monitors world (monitors.notify_all object v world.monitors))
        (called world world object (monitors.monitor_notify_all v) (owner_leaves (λ m. record m { waiters = [] })) same_ok)

    interrupted_ok : (t : ℕ) (status : ThreadStatus) → Spares opened writes v world (interrupted_in world t status)
    interrupted_ok t Running = record { monitors = same_ok.monitors; classes = refl; variables = same_ok.variables; texts = same_ok.texts; statics = same_ok.statics }
    interrupted_ok t (Waiting object count) =
        let s = called world world object (monitors.monitor_interrupt t) (λ m u ne own. own) same_ok in
        record { monitors = s.monitors; classes = s.classes; variables = s.variables; texts = s.texts; statics = s.statics }
    interrupted_ok t (Relock object count cause) = record { monitors = same_ok.monitors; classes = refl; variables = same_ok.variables; texts = same_ok.texts; statics = same_ok.statics }
    interrupted_ok t (Ended exception) = same_ok

    interrupted_on_ok : (o : Option ℕ) → Spares opened writes v world (interrupted_on world o)
    interrupted_on_ok None = same_ok
    interrupted_on_ok (Some t) = interrupted_ok t (thread_at world t).status

    start_ok : (started : Bool) (next object : ℕ) (slots : Slots Value) (rest : List Value)
        → Ok (start_by started next object world slots rest)
    start_ok true next object slots rest = tt
    start_ok false next object slots rest = record { monitors = same_ok.monitors; classes = refl; variables = same_ok.variables; texts = same_ok.texts; statics = same_ok.statics }

    join_ok : (alive : Bool) (next : ℕ) (slots : Slots Value) (rest : List Value) → Ok (join_by alive next world slots rest)
    join_ok true next slots rest = tt
    join_ok false next slots rest = same_ok

    answered_ok : (answer : StringAnswer) (next : ℕ) (slots : Slots Value) (ops rest : List Value) → Ok (answered values answer next world slots ops rest)
    answered_ok IsNull next slots ops rest = tt
    answered_ok IsOutside next slots ops rest = tt
    answered_ok (Answers bits) next slots ops rest = same_ok
    answered_ok (Same k) next slots ops rest = same_ok
    answered_ok (Composes text) next slots ops rest = with_object_made world world _ same_ok

    builds_ok : (empty : ℕ) (answer : BuilderAnswer) (next : ℕ) (slots : Slots Value) (ops rest : List Value)
        → Ok (builds values empty answer next world slots ops rest)
    builds_ok empty builder.IsNull next slots ops rest = tt
    builds_ok empty KeepsEmpty next slots ops rest = with_string_put world world (object_of values ops 0) (values.reference empty) same_ok
    builds_ok empty Keeps next slots ops rest = with_string_put world world (object_of values ops 1) (operand values ops 0) same_ok
    builds_ok empty (Adds added) next slots ops rest =
        let made = Characters (built_text values world (object_of values ops 1) ++ added) in
        with_string_put world (allocated world made) (object_of values ops 1) (values.reference (length world.heap)) (with_object_made world world made same_ok)
    builds_ok empty GivesText next slots ops rest = same_ok

    tells_ok : (files : Program) (answer : ObjectAnswer) (next : ℕ) (slots : Slots Value) (rest : List Value)
        → Ok (tells values files answer next world slots rest)
    tells_ok files telling.IsNull next slots rest = tt
    tells_ok files HasNoClass next slots rest = tt
    tells_ok files (telling.Answers bits) next slots rest = same_ok
    tells_ok files (IsOf class) next slots rest = same_ok
    tells_ok files (telling.Composes text) next slots rest = with_object_made world world _ same_ok

    -- a hidden field of an object is set
    sets_ok : (field : Member) (value : Value) (r : ℕ) → is_hidden field ≡ true → Spares opened writes v world (with_object world r (with_field field value (object_at world r)))
    sets_ok field value r hidden = hidden_set_on world world field value r hidden same_ok

    cloned_ok : (b : Bool) (object : ObjectOf Value) (next : ℕ) (slots : Slots Value) (rest : List Value) → Ok (cloned values b object next world slots rest)
    cloned_ok true object next slots rest = with_object_made world world object same_ok
    cloned_ok false object next slots rest = tt

    -- a String that has none gets a text
    text_ok : (r : ℕ) (text : Text) → Spares opened writes v world (with_text_at opened world r text)
    text_ok r text = by (is_blank opened world r) refl
      where
        by : (b : Bool) → is_blank opened world r ≡ b
            → Spares opened writes v world (if b then with_object world r (with_text text (object_at world r)) else world)
        by true q =
            object_set_on world world r (with_text text (object_at world r)) (text_put writes text (object_at world r)) (λ n. absurd (true≢false (sym q ∙ n))) same_ok
        by false q = same_ok

    standing_ok : (string : Option ℕ) (next : ℕ) (slots : Slots Value) (ops rest : List Value) → Ok (gives_standing values string next world slots ops rest)
    standing_ok None next slots ops rest =
        record { monitors = same_ok.monitors; classes = refl; variables = same_ok.variables; texts = same_ok.texts; statics = same_ok.statics }
    standing_ok (Some string) next slots ops rest = same_ok

    -- elements of an array are stored by an answer of getChars alone
    abbrev MayStore : TextAnswer → Type 0
    MayStore (Stores array index text) = writes Elements ≡ true
    MayStore other = Unit {0}

    if_there_may : (o : Option Text) (go : Text → TextAnswer) → ((text : Text) → MayStore (go text)) → MayStore (if_there o go)
    if_there_may None go h = tt
    if_there_may (Some text) go h = h text

    either_may : (b : Bool) (x y : TextAnswer) → MayStore x → MayStore y → MayStore (if b then x else y)
    either_may true x y h g = h
    either_may false x y h g = g

    writes_ok : (constants : List ℕ) (answer : TextAnswer) (next : ℕ) (slots : Slots Value) (ops rest : List Value) → MayStore answer
        → Ok (writing.writes values opened constants answer next world slots ops rest)
    writes_ok constants writing.IsNull next slots ops rest may = tt
    writes_ok constants writing.IsOutside next slots ops rest may = tt
    writes_ok constants IsOutsideArray next slots ops rest may = tt
    writes_ok constants (Becomes receiver text) next slots ops rest may = text_ok (object_of values ops receiver) text
    writes_ok constants (Stores array index text) next slots ops rest may =
        let r = object_of values ops array in
        let units = map (char_value values) text in
        with_object_set world r (with_elements index units (object_at world r)) (elements_put writes index units (object_at world r) may) (elements_text index units (object_at world r))
    writes_ok constants (StandsFor text) next slots ops rest may = standing_ok (standing_for constants world text) next slots ops rest

    -- a Thread keeps what it is told in hidden fields
    unnamed_ok : (after : World) → Spares opened writes v world after → Spares opened writes v world (with_one_unnamed after)
    unnamed_ok after s = record { monitors = s.monitors; classes = s.classes; variables = s.variables; texts = s.texts; statics = s.statics }

    gives_name_ok : (name : Option ℕ) (text : Text) (next : ℕ) (slots : Slots Value) (ops rest : List Value)
        → Ok (gives_name values name text next world slots ops rest)
    gives_name_ok (Some name) text next slots ops rest = same_ok
    gives_name_ok None text next slots ops rest =
        let made = Characters text in
        hidden_set_on world (allocated world made) thread_name (values.reference (length world.heap)) (object_of values ops 0) refl (with_object_made world world made same_ok)

    names_ok : (method : NameMethod) (next : ℕ) (slots : Slots Value) (ops rest : List Value) → Ok (thread_names values method next world slots ops rest)
    names_ok naming.Construct next slots ops rest = unnamed_ok _ (sets_ok thread_ordinal (values.int world.unnamed) (object_of values ops 0) refl)
    names_ok naming.ConstructWithTarget next slots ops rest =
        unnamed_ok _ (two_set_on world world thread_target thread_ordinal (operand values ops 0) (values.int world.unnamed) (object_of values ops 1) refl refl same_ok)
    names_ok naming.ConstructWithName next slots ops rest =
        not_null_ok (referent values ops 0) _ (λ r. sets_ok thread_name (operand values ops 0) (object_of values ops 1) refl)
    names_ok naming.ConstructWithTargetAndName next slots ops rest =
        not_null_ok (referent values ops 0) _
        (λ r. two_set_on world world thread_target thread_name (operand values ops 1) (operand values ops 0) (object_of values ops 2) refl refl same_ok)
    names_ok naming.GetName next slots ops rest =
        let o = object_at world (object_of values ops 0) in
        gives_name_ok (values.referent (kept_name values o)) (ordinal_text values o) next slots ops rest
    names_ok naming.SetName next slots ops rest =
        not_null_ok (referent values ops 0) _ (λ r. sets_ok thread_name (operand values ops 0) (object_of values ops 1) refl)

    module _ (event : Event) (is : event.thread ≡ v) where
      -- what the method stores of elements the thread may write
      abbrev MayRun : BuiltInMethod → Type 0
      MayRun method = method ≡ StringWrites text_method.GetChars → writes Elements ≡ true

      answer_may : (method : TextMethod) → MayRun (StringWrites method) → (int : ℕ → ℕ) (text units : ℕ → Option Text) → MayStore (text_answer method int text units)
      answer_may text_method.ConstructEmpty may int text units = tt
      answer_may text_method.ConstructOfString may int text units = if_there_may (text 0) (Becomes 1) (λ other. tt)
      answer_may text_method.ConstructOfChars may int text units =
          if_there_may (units 2) (λ elements. text_of_part elements (int 1) (int 0))
          (λ elements. either_may (is_at_most (length elements) (int 0) && is_at_most (length elements - int 0) (int 1)) (Becomes 3 (take (int 0) (drop (int 1) elements))) writing.IsOutside tt tt)
      answer_may text_method.GetChars may int text units =
          if_there_may (text 4) _
          (λ this. if_there_may (units 1) (λ elements. stored_part (length elements) this (int 3) (int 2) (int 0))
          (λ elements.
          let n = length elements in
          let part = take (int 2 - int 3) (drop (int 3) this) in
          either_may (is_at_most (length this) (int 2) && is_at_most (int 2) (int 3)) (if_room n (int 0) part) writing.IsOutside
          (either_may (nat_le (length part) n && is_at_most (n - length part) (int 0)) (Stores 1 (int 0) part) IsOutsideArray (may refl) tt) tt))
      answer_may text_method.Intern may int text units = if_there_may (text 0) StandsFor (λ this. tt)

      built_in_ok : (files : Program) → opening_count files ≡ opened → (method : BuiltInMethod) → MayRun method → (next : ℕ) (slots : Slots Value) (ops rest : List Value)
          → Ok (built_in_does values files method next event world slots ops rest)
      built_in_ok files at Construct may next slots ops rest = same_ok
      built_in_ok files at ConstructWithMessage may next slots ops rest = sets_ok throwable_message (operand values ops 0) (object_of values ops 1) refl
      built_in_ok files at ConstructWithCause may next slots ops rest =
          two_set_on world world throwable_message throwable_cause (operand values ops 1) (operand values ops 0) (object_of values ops 2) refl refl same_ok
      built_in_ok files at ObjectClone may next slots ops rest =
          cloned_ok (is_cloneable files (type_of (object_at world (object_of values ops 0)))) (object_at world (object_of values ops 0)) next slots rest
      built_in_ok files at ObjectWait may next slots ops rest =
          let object = object_of values ops 0 in
          subst (λ t. Ok (wait_by (is_owner world t object) (thread_at world t).interrupted t object world rest)) (sym is)
          (wait_ok (is_owner world v object) (thread_at world v).interrupted object rest)
      built_in_ok files at ObjectNotify may next slots ops rest =
          let object = object_of values ops 0 in
          owner_ok (is_owner world event.thread object) _
          (subst (λ t. Spares opened writes v world (notified world t object event.pick)) (sym is) (notified_ok object event.pick))
      built_in_ok files at ObjectNotifyAll may next slots ops rest =
          let object = object_of values ops 0 in
          owner_ok (is_owner world event.thread object) _ (subst (λ t. Spares opened writes v world (notified_all world t object)) (sym is) (notified_all_ok object))
      built_in_ok files at ThreadStart may next slots ops rest = start_ok (is_some (thread_of world (object_of values ops 0))) next (object_of values ops 0) slots rest
      built_in_ok files at ThreadInterrupt may next slots ops rest = interrupted_on_ok (thread_of world (object_of values ops 0))
      built_in_ok files at ThreadIsInterrupted may next slots ops rest = same_ok
      built_in_ok files at ThreadInterrupted may next slots ops rest = record { monitors = same_ok.monitors; classes = refl; variables = same_ok.variables; texts = same_ok.texts; statics = same_ok.statics }
      built_in_ok files at ThreadYield may next slots ops rest = same_ok
      built_in_ok files at ThreadCurrentThread may next slots ops rest = same_ok
      built_in_ok files at ThreadJoin may next slots ops rest = join_ok (is_alive world (object_of values ops 0)) next slots rest
      built_in_ok files at ThreadIsAlive may next slots ops rest = same_ok
      built_in_ok files at (ThreadNames method) may next slots ops rest = names_ok method next slots ops rest
      built_in_ok files at (PrintStreamPrints print) may next slots ops rest = record { monitors = same_ok.monitors; classes = refl; variables = same_ok.variables; texts = same_ok.texts; statics = same_ok.statics }
      built_in_ok files at (StringAnswers method) may next slots ops rest =
          answered_ok (string_answer method (int_operand values ops) (string_operand values world ops)) next slots ops rest
      built_in_ok files at (StringWrites method) may next slots ops rest =
          let answer = text_answer method (int_operand values ops) (string_operand values world ops) (units_operand values world ops) in
          subst (λ n. Ok (writing.writes values n (string_references files) answer next world slots ops rest)) (sym at)
          (writes_ok (string_references files) answer next slots ops rest (answer_may method may (int_operand values ops) (string_operand values world ops) (units_operand values world ops)))
      built_in_ok files at (StringBuilderBuilds method) may next slots ops rest = builds_ok (string_reference files []) _ next slots ops rest
      built_in_ok files at (ObjectAnswers method) may next slots ops rest = tells_ok files _ next slots rest

      -- ---- the table

      -- the descriptor of a method that stores elements
      get_chars_described : (method : Member) → built_in_method method ≡ StringWrites text_method.GetChars → name_eq method.descriptor string_get_chars.descriptor ≡ true
      get_chars_described method e = passed as_get_chars (refl, (refl, refl)) (λ m u. name_eq m.descriptor string_get_chars.descriptor) refl method tt (ap as_get_chars e)

      module _ (files : Program) (at : opening_count files ≡ opened) (site : Site) (permits : Permits (site_written files site)) (slots : Slots Value) (ops rest : List Value) where
        -- elements may be written where a method of this descriptor is called
        abbrev MayCall : Name → Type 0
        MayCall descriptor = name_eq descriptor string_get_chars.descriptor ≡ true → writes Elements ≡ true

        runs_ok : (object : ℕ) (method : Member) → MayCall method.descriptor → (o : Option Body) → Ok (runs values files site event world slots ops rest object method o)
        runs_ok object method may None = built_in_ok files at (built_in_method method) (λ e. may (get_chars_described method e)) site.next slots ops rest
        runs_ok object method may (Some body) = tt

        invoked_ok : (descriptor : Name) → MayCall descriptor → (object : ℕ) (chosen : Chosen) → Describes descriptor chosen
            → Ok (invoked values files site event world slots ops rest object chosen)
        invoked_ok descriptor may object (Fails fault) same = tt
        invoked_ok descriptor may object (Runs method) same = runs_ok object method (subst MayCall (sym same) may) (body_of files method)

        described_on : (descriptor : Name) (o : Option ℕ) (choose : ℕ → Chosen) → ((r : ℕ) → Describes descriptor (choose r)) → Describes descriptor (of_receiver o choose)
        described_on descriptor None choose h = tt
        described_on descriptor (Some r) choose h = h r

        call_ok : (method : Member) → MayCall method.descriptor → (choose : ℕ → Chosen) → ((r : ℕ) → Describes method.descriptor (choose r))
            → Ok (invoked values files site event world slots ops
            rest (unwrap_or (values.referent (operand values ops (parameter_count method))) 0)
            (of_receiver (values.referent (operand values ops (parameter_count method))) choose))
        call_ok method may choose same =
            let r = values.referent (operand values ops (parameter_count method)) in
            invoked_ok method.descriptor may (unwrap_or r 0) (of_receiver r choose) (described_on method.descriptor r choose same)

        -- by the method that is named
        named_may : (how : Invocation) (call : NamedCall site how) (method : Member) → method.descriptor ≡ call.named.descriptor → MayCall method.descriptor
        named_may how call method same e =
            permits Elements
            (ap (written_by files site) call.instruction
            ∙ (ap (option_and_then written_by_call) call.names
            ∙ ap (λ b. if b then Some Elements else None) (sym (ap (λ d. name_eq d string_get_chars.descriptor) same) ∙ e)))

        static_may : (index : ℕ) → site.instr ≡ instr.Invoke invocation.Static index
            → (m : FoundMethod files is_static_method (option_and_then (find_method files) (method_at site.body.pool index))) → MayCall m.method.descriptor
        static_may index i m e =
            let named = some_from (find_method files) (method_at site.body.pool index) m.method m.found in
            permits Elements
            (ap (written_by files site) i
            ∙ (ap (option_and_then written_by_call) named.1
            ∙ ap (λ b. if b then Some Elements else None) (sym (ap (λ d. name_eq d string_get_chars.descriptor) (method_same files named.0 m.method named.2)) ∙ e)))

        interface_may : (call : NamedInterfaceCall site) (method : Member) → method.descriptor ≡ call.named.descriptor → MayCall method.descriptor
        interface_may call method same e =
            permits Elements
            (ap (written_by files site) call.instruction
            ∙ (ap (option_and_then written_by_call) call.names
            ∙ ap (λ b. if b then Some Elements else None) (sym (ap (λ d. name_eq d string_get_chars.descriptor) same) ∙ e)))

        loaded_ok : (next : ℕ) (first : Value)
            → Ok (not_null (referent values ops 1)
            (λ r. at_index (in_range world r (int_operand values ops 0)) (pushing next (element_at first world r (int_operand values ops 0)
            ∷ []) world slots rest)))
        loaded_ok next first = not_null_ok (referent values ops 1) _ (λ r. index_ok (in_range world r (int_operand values ops 0)) _ same_ok)

        stored_ok : writes Elements ≡ true → (next : ℕ)
            → Ok (not_null (referent values ops 2) (λ r. at_index (in_range world r (int_operand values ops 1))
            (stored next world r (int_operand values ops 1) (kept_by values (object_at world r) (operand values ops 0)) slots rest)))
        stored_ok may next =
            not_null_ok (referent values ops 2) _
            (λ r. index_ok (in_range world r (int_operand values ops 1)) _
            (with_object_set world r (with_element (int_operand values ops 1) (kept_by values (object_at world r) (operand values ops 0)) (object_at world r))
            (element_put writes (int_operand values ops 1) (kept_by values (object_at world r) (operand values ops 0)) (object_at world r) may)
            (element_text (int_operand values ops 1) (kept_by values (object_at world r) (operand values ops 0)) (object_at world r))))

        stored_reference_ok : writes Elements ≡ true → Ok ((store_reference_meaning values files site).does event world slots ops rest)
        stored_reference_ok may =
            not_null_ok (referent values ops 2) _
            (λ r. index_ok (in_range world r (int_operand values ops 1)) _ (storable_ok (may_stand_in values files world (object_at world r) (operand values ops 0)) _
            (with_object_set world r (with_element (int_operand values ops 1) (operand values ops 0) (object_at world r)) (element_put writes (int_operand values ops 1) (operand values ops 0) (object_at world r) may)
            (element_text (int_operand values ops 1) (operand values ops 0) (object_at world r)))))

        load_ok : (kind : ArrayKind) → Ok ((load_of values files site kind).does event world slots ops rest)
        load_ok array_kind.Int = loaded_ok site.next (values.int 0)
        load_ok array_kind.Reference = loaded_ok site.next values.over.null
        load_ok array_kind.ByteOrBoolean = loaded_ok site.next (values.int 0)
        load_ok array_kind.Char = loaded_ok site.next (values.int 0)
        load_ok array_kind.Short = loaded_ok site.next (values.int 0)

        store_ok : writes Elements ≡ true → (kind : ArrayKind) → Ok ((store_of values files site kind).does event world slots ops rest)
        store_ok may array_kind.Int = stored_ok may site.next
        store_ok may array_kind.Reference = stored_reference_ok may
        store_ok may array_kind.ByteOrBoolean = stored_ok may site.next
        store_ok may array_kind.Char = stored_ok may site.next
        store_ok may array_kind.Short = stored_ok may site.next

        return_ok : (kind : Returned) → Ok ((return_of values files site.method.descriptor kind).does event world slots ops rest)
        return_ok returned.Nothing = same_ok
        return_ok returned.Int = same_ok
        return_ok returned.Reference = same_ok

        exit_ok : Ok ((monitor_exit_meaning values site).does event world slots ops rest)
        exit_ok =
            not_null_ok (referent values ops 0) _
            (λ r. subst (λ t. Ok (left (is_owner world t r) site.next t r world slots rest)) (sym is) (left_ok (is_owner world v r) site.next r slots rest))

        row_ok : (row : Row) → Ok ((local_meaning values row).does event world slots ops rest)
        row_ok row =
            either_ok (row.fails (values.words ops)) (Raises Arithmetic) (Goes Free world (after_row values.over row slots) (row_target row (values.words ops))) tt same_ok

        -- a put writes the field
        puts : (f : NamedField files site access.PutField is_instance_field) → site_written files site ≡ Some (Fields f.field)
        puts f =
            ap (written_by files site) f.instruction
            ∙ (ap (λ o. option_and_then (put_by access.PutField) (option_and_then (find_field files) o)) f.names
            ∙ ap (option_and_then (put_by access.PutField)) f.found)

        puts_static : (f : NamedField files site access.PutStatic is_static_field) → site_written files site ≡ Some (Statics f.field)
        puts_static f =
            ap (written_by files site) f.instruction
            ∙ (ap (λ o. option_and_then (put_by access.PutStatic) (option_and_then (find_field files) o)) f.names
            ∙ ap (option_and_then (put_by access.PutStatic)) f.found)

        field_beside : (f : NamedField files site access.PutStatic is_static_field) (other : Member) → writes (Statics other) ≡ false
            → member_eq f.field other ≡ false
        field_beside f other n = by (member_eq f.field other) refl
          where
            by : (b : Bool) → member_eq f.field other ≡ b → member_eq f.field other ≡ false
            by true q =
                absurd (true≢false (sym (permits (Statics f.field) (puts_static f)) ∙ (ap (λ m. writes (Statics m)) (members_same f.field other q) ∙ n)))
            by false q = q

        operation_ok : (o : Operation files site) → Ok ((operation values files site o).does event world slots ops rest)
        operation_ok (OfRow row e) = row_ok row
        operation_ok (GetSystemStream index stream n) = same_ok
        operation_ok (GetStatic f) = same_ok
        operation_ok (PutStatic f) =
            record {
              monitors = same_ok.monitors;
              classes = refl;
              variables = same_ok.variables;
              texts = same_ok.texts;
              statics = λ other first n. value_other f.field other first (put_value values f.field (operand values ops 0)) (field_beside f other n) world.statics;
            }
        operation_ok (GetField f) = not_null_ok (referent values ops 0) _ (λ r. same_ok)
        operation_ok (PutField f) =
            not_null_ok (referent values ops 1) _
            (λ r. with_object_set world r (with_field f.field (put_value values f.field (operand values ops 0)) (object_at world r)) (field_put writes f.field (put_value values f.field (operand values ops 0)) (object_at world r) (permits (Fields f.field) (puts f))) (field_text f.field (put_value values f.field (operand values ops 0)) (object_at world r)))
        operation_ok (Println call e) = not_null_ok (referent values ops 1) _ (λ r. record { monitors = same_ok.monitors; classes = refl; variables = same_ok.variables; texts = same_ok.texts; statics = same_ok.statics })
        operation_ok (CallVirtual call e m) =
            call_ok m.method (named_may invocation.Virtual call m.method (method_same files call.named m.method m.found)) _ (λ r. describes_selected files (its_class world r) m.method)
        operation_ok (CallConstructor call e passes) = call_ok call.named (named_may invocation.Special call call.named refl) _ (λ r. refl)
        operation_ok (CallSpecial call e m) =
            call_ok m.method (named_may invocation.Special call m.method (method_same files call.named m.method m.found)) _
            (λ r. describes_selected files (special_class files site.method.class call.named.class) m.method)
        operation_ok (CallStatic index i m) =
            invoked_ok m.method.descriptor (static_may index i m) (class_reference files m.method.class) (Runs m.method) refl
        operation_ok (CallInterface call m) =
            call_ok m.method (interface_may call m.method (interface_method_same files call.named m.method m.found)) _
            (λ r. describes_implements files m.method.descriptor (is_subtype files (type_of (object_at world r)) (ClassType call.named.class)) (selected files (its_class world r) m.method) (describes_selected files (its_class world r) m.method))
        operation_ok (Return kind i) = return_ok kind
        operation_ok (LoadClass constant file e) = same_ok
        operation_ok (LoadString constant) = same_ok
        operation_ok (New class file e) = with_object_made world world _ same_ok
        operation_ok (NewArray code of i e) = array_ok (is_negative (int_operand values ops 0)) site.next (int_operand values ops 0) _ _ slots rest
        operation_ok (NewReferenceArray class) = array_ok (is_negative (int_operand values ops 0)) site.next (int_operand values ops 0) _ _ slots rest
        operation_ok (ArrayLength i) = not_null_ok (referent values ops 0) _ (λ r. same_ok)
        operation_ok (LoadElement kind i) = load_ok kind
        operation_ok (StoreElement kind i) = store_ok (permits Elements (ap (written_by files site) i)) kind
        operation_ok (CheckCast class) = cast_ok _ site.next (operand values ops 0) slots rest
        operation_ok (InstanceOf class) = same_ok
        operation_ok (Throw i) = not_null_ok (referent values ops 0) (λ r. Throws r) (λ r. tt)
        operation_ok (MonitorEnter i) =
            not_null_ok (referent values ops 0) _ (λ r. subst (λ t. Spares opened writes v world (with_entry world t r)) (sym is) (entry_spares world world r same_ok))
        operation_ok (MonitorExit i) = exit_ok

      -- what an instruction does spares the others
      abbrev pub DoesSpare : MeaningOf Value → Type 0
      DoesSpare m = (slots : Slots Value) (ops rest : List Value) → Ok (m.does event world slots ops rest)

      pub meaning_spares : (files : Program) → opening_count files ≡ opened → (site : Site) → Permits (site_written files site) → OfMeaning DoesSpare (meaning_of values files site)
      meaning_spares files at site permits = each_meaning values files site DoesSpare (λ o slots ops rest. operation_ok files at site permits slots ops rest o)
