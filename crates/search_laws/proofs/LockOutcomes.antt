-- A monitor that a thread owns is changed by the thread: what instructions of the others do commutes with that.
use Rattle.std.proofs.Common.{◌≡◌, ℕ, List, [], Bool, true, false, ◌==◌, ◌&&◌, nat_lt, length, if◌then◌else◌, Option, Some, None, refl, ap, ◌∙◌, ◌∷◌, ◌++◌}
use Rattle.std.specs.Prelude.{replicate, is_none, is_some, slice_get}
use Rattle.std.proofs.lemmas.Bool.{and_parts, and_from}
use Rattle.model.specs.declared.builder_method.BuilderMethod.{BuilderMethod}
use Rattle.model.specs.declared.event.Event.{Event}
use Rattle.model.specs.declared.instr.ArrayKind.{ArrayKind}
use Rattle.model.specs.declared.instr.ArrayKind.TheVariants as array_kind
use Rattle.model.specs.declared.instr.Returned.{Returned}
use Rattle.model.specs.declared.instr.Returned.TheVariants as returned
use Rattle.model.specs.declared.value.Value.{Value}
use Rattle.model.specs.Arrays.{is_negative, made_array, in_range, at_index, may_stand_in, if_storable, load_of, store_of}
use Rattle.model.specs.BuilderMethods as builder
use Rattle.model.specs.BuilderMethods.{kept_string, text_or_empty, built_text, with_string, builder_shown, BuilderAnswer, KeepsEmpty, Keeps, Adds, GivesText, builder_answer, composed, builds, builder_does}
use Rattle.model.specs.ObjectMethods as telling
use Rattle.model.specs.ObjectMethods.{ObjectAnswer, HasNoClass, IsOf, object_answer, object_place, tells, type_at}
use Rattle.model.specs.BuiltInMethods.{BuiltInMethod, Construct, ConstructWithMessage, ConstructWithCause, ObjectClone, ObjectWait, ObjectNotify, ObjectNotifyAll, ThreadStart, ThreadInterrupt, ThreadIsInterrupted, ThreadInterrupted, ThreadYield, ThreadCurrentThread, ThreadJoin, ThreadIsAlive, ThreadNames, PrintStreamPrints, StringAnswers, StringWrites, StringBuilderBuilds, ObjectAnswers, built_in_method, object_of, string_operand, answered, wait_by, notified_one, notified, notified_all, if_owner, start_by, interrupted_in, interrupted_on, join_by, built_in_may, built_in_does, printed_by, string_shown, with_printed}
use Rattle.model.specs.Calls.{Chosen, Fails, Runs, runs, invoked, may_run, may_invoke, return_of}
use Rattle.model.specs.Classes.{Program, Body, body_of}
use Rattle.model.specs.MonitorMeanings.{left, may_enter_object}
use Rattle.model.specs.Meanings.{meaning_of}
use Rattle.model.specs.Monitors as monitors
use Rattle.model.specs.Monitors.{monitor_at}
use Rattle.model.specs.Names.{Member}
use Rattle.model.specs.Objects.{cast}
use Rattle.model.specs.DescribedTypes.{type_named}
use Rattle.model.specs.Opening.{class_reference, new_instance, string_reference, string_references, opening_count}
use Rattle.model.specs.Operands.{Slots, values}
use Rattle.model.specs.Outcomes.{Cost, Free, Makes, Fills, Enters, Joins, OutcomeOf, Goes, Raises, Throws, Interrupts, Calls, Returns, Waits, not_null}
use Rattle.model.specs.Sites.{MeaningOf, Site, operand, referent, int_operand, pushing, pushing_at}
use Rattle.model.specs.State.{ObjectOf, type_of, Primitives, References, Monitor, Waiter, Notified, Interrupted, ThreadStatus, Running, Waiting, Relock, Ended, World, Characters}
use Rattle.model.specs.Texts.{Text}
use Rattle.model.specs.declared.name_method.NameMethod.{NameMethod}
use Rattle.model.specs.declared.name_method.NameMethod.TheVariants as naming
use Rattle.model.specs.Cloning.{is_cloneable, cloned}
use Rattle.model.specs.TextMethods as writing
use Rattle.model.specs.TextMethods.{TextAnswer, IsOutsideArray, Becomes, Stores, StandsFor, text_answer, units_operand, standing_for, gives_standing, is_blank, with_text_at, writes}
use Rattle.model.specs.ThreadNames.{kept_name, ordinal_text, with_name, gives_name, thread_names}
use Rattle.model.specs.StringMethods.{StringAnswer, IsNull, IsOutside, Answers, Same, Composes, string_answer}
use Rattle.model.specs.Worlds.{allocated, cells_of, thread_at, is_owner, is_done, object_at, with_object, with_text, with_status, with_interrupted, all_woken, with_monitors, with_entry, with_exit, entry_cost, may_enter, thread_of, is_alive, waiters_of}
use Rattle.model.specs.declared.print_method.PrintMethod.{PrintMethod}
use Rattle.model.specs.declared.print_method.PrintMethod.TheVariants.{Println, PrintlnChar, PrintlnInt, PrintlnString, PrintChar, PrintInt, PrintString}
use Rattle.run_laws.proofs.laws.Operations.{Operation, OfRow, GetSystemStream, GetStatic, PutStatic, GetField, PutField, Println, CallVirtual, CallConstructor, CallSpecial, CallStatic, CallInterface, Return, LoadClass, LoadString, New, NewArray, NewReferenceArray, ArrayLength, LoadElement, StoreElement, CheckCast, InstanceOf, Throw, MonitorEnter, MonitorExit, operation, OfMeaning, each_meaning}
use Rattle.search_laws.proofs.Locks.{IsChange, with_change, Owned, owned_apart, entered_apart, owner_same, waiters_same, count_same, answer_same, called_same, interrupted_same, allocated_same, woken_same}

module _ (t r : ℕ) (change : Monitor → Monitor) (c : IsChange t change) where
  abbrev pub changed_in : World → World
  changed_in = with_change t r change c

  -- the outcome with the monitor changed
  abbrev pub outcome_in : OutcomeOf Value → OutcomeOf Value
  outcome_in (Goes cost after slots to) = Goes cost (changed_in after) slots to
  outcome_in (Raises fault) = Raises fault
  outcome_in (Throws exception) = Throws exception
  outcome_in Interrupts = Interrupts
  outcome_in (Calls callee rest) = Calls callee rest
  outcome_in (Returns after results) = Returns (changed_in after) results
  outcome_in (Waits cost after rest) = Waits cost (changed_in after) rest

  module _ (event : Event) (ne : t ≡ event.thread → ⊥) (w : World) (own : Owned t r change c w) where
    abbrev v : ℕ
    v = event.thread

    abbrev f : World → World
    f = changed_in

    -- the outcome in the changed world is that of the other one, changed
    abbrev Is : OutcomeOf Value → OutcomeOf Value → Type 0
    Is y x = y ≡ outcome_in x

    null_is : (o : Option ℕ) (y x : ℕ → OutcomeOf Value) → ((object : ℕ) → Is (y object) (x object)) → Is (not_null o y) (not_null o x)
    null_is None y x h = refl
    null_is (Some object) y x h = h object

    index_is : (b : Bool) (y x : OutcomeOf Value) → Is y x → Is (at_index b y) (at_index b x)
    index_is true y x h = h
    index_is false y x h = refl

    storable_is : (b : Bool) (y x : OutcomeOf Value) → Is y x → Is (if_storable b y) (if_storable b x)
    storable_is true y x h = h
    storable_is false y x h = refl

    cast_is : (b : Bool) (next : ℕ) (value : Value) (slots : Slots Value) (rest : List Value) → Is (cast b next value (f w) slots rest) (cast b next value w slots rest)
    cast_is true next value slots rest = refl
    cast_is false next value slots rest = refl

    row_is : (b : Bool) (y x : OutcomeOf Value) → Is y x → (fault : OutcomeOf Value) → Is fault fault → Is (if b then fault else y) (if b then fault else x)
    row_is true y x h fault g = g
    row_is false y x h fault g = h

    goes_is : (cost other : Cost) (a b : World) (slots : Slots Value) (to : ℕ) → other ≡ cost → b ≡ f a → Is (Goes other b slots to) (Goes cost a slots to)
    goes_is cost other a b slots to e q = ap (λ k. Goes k b slots to) e ∙ ap (λ k. Goes cost k slots to) q

    array_is : (b : Bool) (next count : ℕ) (array : List Value → ObjectOf Value) (first : Value) (slots : Slots Value) (rest : List Value)
        → Is (made_array values b next count array first (f w) slots rest) (made_array values b next count array first w slots rest)
    array_is true next count array first slots rest = refl
    array_is false next count array first slots rest =
        let made = array (replicate count first) in
        goes_is (Makes count) (Makes count) (allocated w made) (allocated (f w) made) _ next refl (allocated_same t r change c v ne w own made)

    -- ---- monitors

    exited : (object : ℕ) → (object ≡ r → ⊥) → with_exit (f w) v object ≡ f (with_exit w v object)
    exited object n = called_same t r change c v ne w own object (monitors.monitor_exit v) n

    entered : (object : ℕ) → (object ≡ r → ⊥) → with_entry (f w) v object ≡ f (with_entry w v object)
    entered object n = called_same t r change c v ne w own object (monitors.monitor_enter v) n

    cost_same : (object : ℕ) → (object ≡ r → ⊥) → entry_cost (f w) object ≡ entry_cost w object
    cost_same object n = ap (λ k. Enters object k) (count_same t r change c v ne w own object n)

    may_same : (object : ℕ) → may_enter w v object ≡ true → may_enter (f w) v object ≡ true
    may_same object e =
        ap is_done (answer_same t r change c v ne w own object (monitors.monitor_enter v) (entered_apart t r change c v ne w own object e)) ∙ e

    left_is : (b other : Bool) (next object : ℕ) (slots : Slots Value) (rest : List Value) → is_owner w v object ≡ b → other ≡ b
        → Is (left other next v object (f w) slots rest) (left b next v object w slots rest)
    left_is true other next object slots rest h e =
        ap (λ k. left k next v object (f w) slots rest) e
        ∙ goes_is Free Free (with_exit w v object) (with_exit (f w) v object) _ next refl (exited object (owned_apart t r change c v ne w own object h))
    left_is false other next object slots rest h e = ap (λ k. left k next v object (f w) slots rest) e

    -- ---- methods of the machine

    waits_is : (b other interrupted : Bool) (object : ℕ) (rest : List Value) → is_owner w v object ≡ b → other ≡ b
        → Is (wait_by other interrupted v object (f w) rest) (wait_by b interrupted v object w rest)
    waits_is false other interrupted object rest h e = ap (λ k. wait_by k interrupted v object (f w) rest) e
    waits_is true other true object rest h e = ap (λ k. wait_by k true v object (f w) rest) e
    waits_is true other false object rest h e =
        let n = owned_apart t r change c v ne w own object h in
        ap (λ k. wait_by k false v object (f w) rest) e
        ∙ (ap (λ k. Waits (Joins object) (with_status k v (Waiting object (monitor_at (f w).monitors object).count)) rest) (called_same t r change c v ne w own object (monitors.monitor_wait v) n)
        ∙ ap (λ k. Waits (Joins object) (with_status (f (with_monitors w (monitors.wait object v w.monitors))) v (Waiting object k)) rest) (count_same t r change c v ne w own object n))

    owner_is : (b other : Bool) (y x : OutcomeOf Value) → other ≡ b → (b ≡ true → Is y x) → Is (if_owner other y) (if_owner b x)
    owner_is true other y x e h = ap (λ k. if_owner k y) e ∙ h refl
    owner_is false other y x e h = ap (λ k. if_owner k y) e

    notified_is : (object : ℕ) → is_owner w v object ≡ true → notified (f w) v object event.pick ≡ f (notified w v object event.pick)
    notified_is object h =
        let n = owned_apart t r change c v ne w own object h in
        ap (λ k. notified_one k object (slice_get (waiters_of (f w) object) event.pick)) (called_same t r change c v ne w own object (monitors.monitor_notify v event.pick) n)
        ∙ (ap (λ ws. notified_one (f (with_monitors w (monitors.notify object v event.pick w.monitors))) object (slice_get ws event.pick)) (waiters_same t r change c v ne w own object)
        ∙ by (slice_get (waiters_of w object) event.pick))
      where
        by : (o : Option Waiter)
            → notified_one (changed_in (with_monitors w (monitors.notify object event.thread event.pick w.monitors))) object o
            ≡ changed_in (notified_one (with_monitors w (monitors.notify object event.thread event.pick w.monitors)) object o)
        by None = refl
        by (Some waiter) = refl

    notified_all_is : (object : ℕ) → is_owner w v object ≡ true → notified_all (f w) v object ≡ f (notified_all w v object)
    notified_all_is object h =
        let n = owned_apart t r change c v ne w own object h in
        let after = with_monitors w (monitors.notify_all object v w.monitors) in
        ap (λ k. all_woken object Notified k (waiters_of (f w) object)) (called_same t r change c v ne w own object (monitors.monitor_notify_all v) n)
        ∙ (ap (all_woken object Notified (f after)) (waiters_same t r change c v ne w own object)
        ∙ woken_same t r change c object Notified (waiters_of w object) after)

    interrupted_is : (u : ℕ) (status : ThreadStatus) → interrupted_in (f w) u status ≡ f (interrupted_in w u status)
    interrupted_is u Running = refl
    interrupted_is u (Waiting object count) =
        ap (λ k. with_status (with_interrupted k u true) u (Relock object count Interrupted)) (interrupted_same t r change c v ne w own object u)
    interrupted_is u (Relock object count cause) = refl
    interrupted_is u (Ended exception) = refl

    interrupted_on_is : (o : Option ℕ) → interrupted_on (f w) o ≡ f (interrupted_on w o)
    interrupted_on_is None = refl
    interrupted_on_is (Some u) = interrupted_is u (thread_at w u).status

    start_is : (b : Bool) (next object : ℕ) (slots : Slots Value) (rest : List Value)
        → Is (start_by b next object (f w) slots rest) (start_by b next object w slots rest)
    start_is true next object slots rest = refl
    start_is false next object slots rest = refl

    join_is : (b : Bool) (next : ℕ) (slots : Slots Value) (rest : List Value) → Is (join_by b next (f w) slots rest) (join_by b next w slots rest)
    join_is true next slots rest = refl
    join_is false next slots rest = refl

    -- what is printed is of operands, and of a text
    shown_same : (o : Option ℕ) → string_shown (f w) o ≡ string_shown w o
    shown_same None = refl
    shown_same (Some object) = refl

    printed_same : (print : PrintMethod) (ops : List Value) → printed_by values print (f w) ops ≡ printed_by values print w ops
    printed_same Println ops = refl
    printed_same PrintlnChar ops = refl
    printed_same PrintlnInt ops = refl
    printed_same PrintlnString ops = ap (λ text. text ++ 10 ∷ []) (shown_same (referent values ops 0))
    printed_same PrintChar ops = refl
    printed_same PrintInt ops = refl
    printed_same PrintString ops = shown_same (referent values ops 0)

    -- what is answered is of operands and texts, and a new String is the last object
    answered_is : (answer : StringAnswer) (next : ℕ) (slots : Slots Value) (ops rest : List Value)
        → Is (answered values answer next (f w) slots ops rest) (answered values answer next w slots ops rest)
    answered_is IsNull next slots ops rest = refl
    answered_is IsOutside next slots ops rest = refl
    answered_is (Answers bits) next slots ops rest = refl
    answered_is (Same k) next slots ops rest = refl
    answered_is (Composes text) next slots ops rest =
        goes_is (Makes (length text)) (Makes (length text)) (allocated w (Characters text)) (allocated (f w) (Characters text)) _ next refl (allocated_same t r change c v ne w own (Characters text))

    -- so is what a StringBuilder is given
    text_same : (o : Option ℕ) → text_or_empty (f w) o ≡ text_or_empty w o
    text_same None = refl
    text_same (Some string) = refl

    built_same : (builder : ℕ) → built_text values (f w) builder ≡ built_text values w builder
    built_same builder = text_same (values.referent (kept_string values (object_at w builder)))

    builder_shown_same : (o : Option ℕ) → builder_shown values (f w) o ≡ builder_shown values w o
    builder_shown_same None = refl
    builder_shown_same (Some builder) = built_same builder

    composed_is : (text other : Text) (next : ℕ) (slots : Slots Value) (ops rest : List Value) → other ≡ text
        → Is (composed values other next (f w) slots ops rest) (composed values text next w slots ops rest)
    composed_is text other next slots ops rest e =
        let builder = object_of values ops 1 in
        let string = values.reference (length w.heap) in
        let made = Characters text in
        ap (λ k. composed values k next (f w) slots ops rest) e
        ∙ goes_is (Makes (length text)) (Makes (length text)) (with_string (allocated w made) builder string) (with_string (allocated (f w) made) builder string) _ next refl
        (ap (λ k. with_string k builder string) (allocated_same t r change c v ne w own made))

    builds_is : (empty : ℕ) (answer : BuilderAnswer) (next : ℕ) (slots : Slots Value) (ops rest : List Value)
        → Is (builds values empty answer next (f w) slots ops rest) (builds values empty answer next w slots ops rest)
    builds_is empty builder.IsNull next slots ops rest = refl
    builds_is empty KeepsEmpty next slots ops rest = refl
    builds_is empty Keeps next slots ops rest = refl
    builds_is empty (Adds added) next slots ops rest =
        let object = object_of values ops 1 in
        composed_is (built_text values w object ++ added) (built_text values (f w) object ++ added) next slots ops rest (ap (λ k. k ++ added) (built_same object))
    builds_is empty GivesText next slots ops rest = refl

    builder_is : (empty : ℕ) (method : BuilderMethod) (next : ℕ) (slots : Slots Value) (ops rest : List Value)
        → Is (builder_does values empty method next (f w) slots ops rest) (builder_does values empty method next w slots ops rest)
    builder_is empty method next slots ops rest =
        let o = referent values ops 0 in
        let bits = int_operand values ops 0 in
        ap (λ k. builds values empty (builder_answer method bits (is_none o) k (builder_shown values (f w) o)) next (f w) slots ops rest) (shown_same o)
        ∙ ap (λ k. builds values empty (builder_answer method bits (is_none o) (string_shown w o) k) next (f w) slots ops rest) (builder_shown_same o)
        ∙ builds_is empty (builder_answer method bits (is_none o) (string_shown w o) (builder_shown values w o)) next slots ops rest

    -- the types of objects stay
    tells_is : (files : Program) (answer : ObjectAnswer) (next : ℕ) (slots : Slots Value) (rest : List Value)
        → Is (tells values files answer next (f w) slots rest) (tells values files answer next w slots rest)
    tells_is files telling.IsNull next slots rest = refl
    tells_is files HasNoClass next slots rest = refl
    tells_is files (telling.Answers bits) next slots rest = refl
    tells_is files (IsOf class) next slots rest = refl
    tells_is files (telling.Composes text) next slots rest =
        goes_is (Makes (length text)) (Makes (length text)) (allocated w (Characters text)) (allocated (f w) (Characters text)) _ next refl (allocated_same t r change c v ne w own (Characters text))

    cloned_is : (b : Bool) (object : ObjectOf Value) (next : ℕ) (slots : Slots Value) (rest : List Value)
        → Is (cloned values b object next (f w) slots rest) (cloned values b object next w slots rest)
    cloned_is true object next slots rest =
        goes_is (Makes (cells_of object)) (Makes (cells_of object)) (allocated w object) (allocated (f w) object) _ next refl (allocated_same t r change c v ne w own object)
    cloned_is false object next slots rest = refl

    -- a String gets its text, or keeps what it has
    text_is : (b : Bool) (string : ℕ) (object : ObjectOf Value)
        → (if b then with_object (f w) string object else f w) ≡ f (if b then with_object w string object else w)
    text_is true string object = refl
    text_is false string object = refl

    standing_is : (string : Option ℕ) (next : ℕ) (slots : Slots Value) (ops rest : List Value)
        → Is (gives_standing values string next (f w) slots ops rest) (gives_standing values string next w slots ops rest)
    standing_is None next slots ops rest = refl
    standing_is (Some string) next slots ops rest = refl

    writes_is : (opened : ℕ) (constants : List ℕ) (answer : TextAnswer) (next : ℕ) (slots : Slots Value) (ops rest : List Value)
        → Is (writes values opened constants answer next (f w) slots ops rest) (writes values opened constants answer next w slots ops rest)
    writes_is opened constants writing.IsNull next slots ops rest = refl
    writes_is opened constants writing.IsOutside next slots ops rest = refl
    writes_is opened constants IsOutsideArray next slots ops rest = refl
    writes_is opened constants (Becomes receiver text) next slots ops rest =
        let string = object_of values ops receiver in
        goes_is (Fills (length text)) (Fills (length text)) (with_text_at opened w string text) (with_text_at opened (f w) string text) _ next refl
        (text_is (is_blank opened w string) string (with_text text (object_at w string)))
    writes_is opened constants (Stores array index text) next slots ops rest = refl
    writes_is opened constants (StandsFor text) next slots ops rest = standing_is (standing_for constants w text) next slots ops rest

    gives_name_is : (name : Option ℕ) (text : Text) (next : ℕ) (slots : Slots Value) (ops rest : List Value)
        → Is (gives_name values name text next (f w) slots ops rest) (gives_name values name text next w slots ops rest)
    gives_name_is (Some name) text next slots ops rest = refl
    gives_name_is None text next slots ops rest =
        let thread = object_of values ops 0 in
        let name = values.reference (length w.heap) in
        let made = Characters text in
        goes_is (Makes (length text)) (Makes (length text)) (with_name (allocated w made) thread name) (with_name (allocated (f w) made) thread name) _ next refl
        (ap (λ k. with_name k thread name) (allocated_same t r change c v ne w own made))

    names_is : (method : NameMethod) (next : ℕ) (slots : Slots Value) (ops rest : List Value)
        → Is (thread_names values method next (f w) slots ops rest) (thread_names values method next w slots ops rest)
    names_is naming.Construct next slots ops rest = refl
    names_is naming.ConstructWithTarget next slots ops rest = refl
    names_is naming.ConstructWithName next slots ops rest = null_is (referent values ops 0) _ _ (λ object. refl)
    names_is naming.ConstructWithTargetAndName next slots ops rest = null_is (referent values ops 0) _ _ (λ object. refl)
    names_is naming.GetName next slots ops rest =
        let o = object_at w (object_of values ops 0) in
        gives_name_is (values.referent (kept_name values o)) (ordinal_text values o) next slots ops rest
    names_is naming.SetName next slots ops rest = null_is (referent values ops 0) _ _ (λ object. refl)

    built_in_is : (files : Program) (method : BuiltInMethod) (next : ℕ) (slots : Slots Value) (ops rest : List Value)
        → Is (built_in_does values files method next event (f w) slots ops rest) (built_in_does values files method next event w slots ops rest)
    built_in_is files Construct next slots ops rest = refl
    built_in_is files ConstructWithMessage next slots ops rest = refl
    built_in_is files ConstructWithCause next slots ops rest = refl
    built_in_is files ObjectClone next slots ops rest =
        cloned_is (is_cloneable files (type_of (object_at w (object_of values ops 0)))) (object_at w (object_of values ops 0)) next slots rest
    built_in_is files ObjectWait next slots ops rest =
        let object = object_of values ops 0 in
        waits_is (is_owner w v object) (is_owner (f w) v object) (thread_at w v).interrupted object rest refl (owner_same t r change c v ne w own object)
    built_in_is files ObjectNotify next slots ops rest =
        let object = object_of values ops 0 in
        owner_is (is_owner w v object) (is_owner (f w) v object) (pushing next [] (notified (f w) v object event.pick) slots rest) (pushing next [] (notified w v object event.pick) slots rest) (owner_same t r change c v ne w own object)
        (λ h. goes_is Free Free (notified w v object event.pick) (notified (f w) v object event.pick) _ next refl (notified_is object h))
    built_in_is files ObjectNotifyAll next slots ops rest =
        let object = object_of values ops 0 in
        owner_is (is_owner w v object) (is_owner (f w) v object) (pushing next [] (notified_all (f w) v object) slots rest) (pushing next [] (notified_all w v object) slots rest) (owner_same t r change c v ne w own object)
        (λ h. goes_is Free Free (notified_all w v object) (notified_all (f w) v object) _ next refl (notified_all_is object h))
    built_in_is files ThreadStart next slots ops rest = start_is (is_some (thread_of w (object_of values ops 0))) next (object_of values ops 0) slots rest
    built_in_is files ThreadInterrupt next slots ops rest =
        let o = thread_of w (object_of values ops 0) in
        goes_is Free Free (interrupted_on w o) (interrupted_on (f w) o) _ next refl (interrupted_on_is o)
    built_in_is files ThreadIsInterrupted next slots ops rest = refl
    built_in_is files ThreadInterrupted next slots ops rest = refl
    built_in_is files ThreadYield next slots ops rest = refl
    built_in_is files ThreadCurrentThread next slots ops rest = refl
    built_in_is files ThreadJoin next slots ops rest = join_is (is_alive w (object_of values ops 0)) next slots rest
    built_in_is files ThreadIsAlive next slots ops rest = refl
    built_in_is files (ThreadNames method) next slots ops rest = names_is method next slots ops rest
    built_in_is files (PrintStreamPrints print) next slots ops rest =
        goes_is Free Free (with_printed w (printed_by values print w ops)) (with_printed (f w) (printed_by values print (f w) ops)) _ next refl (ap (with_printed (f w)) (printed_same print ops))
    built_in_is files (StringAnswers method) next slots ops rest =
        answered_is (string_answer method (int_operand values ops) (string_operand values w ops)) next slots ops rest
    built_in_is files (StringWrites method) next slots ops rest =
        writes_is (opening_count files) (string_references files)
        (text_answer method (int_operand values ops) (string_operand values w ops) (units_operand values w ops)) next slots ops rest
    built_in_is files (StringBuilderBuilds method) next slots ops rest = builder_is (string_reference files []) method next slots ops rest
    built_in_is files (ObjectAnswers method) next slots ops rest = tells_is files _ next slots rest

    -- an event that may be done may be done there
    built_in_may_same : (method : BuiltInMethod) (ops : List Value) → built_in_may values method event (f w) ops ≡ built_in_may values method event w ops
    built_in_may_same Construct ops = refl
    built_in_may_same ConstructWithMessage ops = refl
    built_in_may_same ConstructWithCause ops = refl
    built_in_may_same ObjectClone ops = refl
    built_in_may_same ObjectWait ops = refl
    built_in_may_same ObjectNotify ops =
        let object = object_of values ops 0 in
        ap (λ b. if b && nat_lt 0 (length (waiters_of (f w) object)) then nat_lt event.pick (length (waiters_of (f w) object)) else (event.pick == 0)) (owner_same t r change c v ne w own object)
        ∙ ap (λ ws. if is_owner w v object && nat_lt 0 (length ws) then nat_lt event.pick (length ws) else (event.pick == 0)) (waiters_same t r change c v ne w own object)
    built_in_may_same ObjectNotifyAll ops = refl
    built_in_may_same ThreadStart ops = refl
    built_in_may_same ThreadInterrupt ops = refl
    built_in_may_same ThreadIsInterrupted ops = refl
    built_in_may_same ThreadInterrupted ops = refl
    built_in_may_same ThreadYield ops = refl
    built_in_may_same ThreadCurrentThread ops = refl
    built_in_may_same ThreadJoin ops = refl
    built_in_may_same ThreadIsAlive ops = refl
    built_in_may_same (ThreadNames method) ops = refl
    built_in_may_same (PrintStreamPrints print) ops = refl
    built_in_may_same (StringAnswers method) ops = refl
    built_in_may_same (StringWrites method) ops = refl
    built_in_may_same (StringBuilderBuilds method) ops = refl
    built_in_may_same (ObjectAnswers method) ops = refl

    -- ---- the table

    -- what may be done may be done in the changed world, and does the same
    pub record IsSame (m : MeaningOf Value) (slots : Slots Value) (ops rest : List Value) : Type 0 where
      pub may : m.may event (f w) ops ≡ true
      pub does : Is (m.does event (f w) slots ops rest) (m.does event w slots ops rest)

    abbrev pub DoesSame : MeaningOf Value → Type 0
    DoesSame m = (slots : Slots Value) (ops rest : List Value) → m.may event w ops ≡ true → IsSame m slots ops rest

    module _ (files : Program) (site : Site) where
      run_may : (method : Member) (ops : List Value) (o : Option Body) → may_run values event (f w) ops method o ≡ may_run values event w ops method o
      run_may method ops None = built_in_may_same (built_in_method method) ops
      run_may method ops (Some body) = refl

      invoke_may : (ops : List Value) (chosen : Chosen) → may_invoke values files event (f w) ops chosen ≡ may_invoke values files event w ops chosen
      invoke_may ops (Fails fault) = refl
      invoke_may ops (Runs method) = run_may method ops (body_of files method)

      runs_is : (slots : Slots Value) (ops rest : List Value) (object : ℕ) (method : Member) (o : Option Body)
          → Is (runs values files site event (f w) slots ops rest object method o) (runs values files site event w slots ops rest object method o)
      runs_is slots ops rest object method None = built_in_is files (built_in_method method) site.next slots ops rest
      runs_is slots ops rest object method (Some body) = refl

      invoked_is : (slots : Slots Value) (ops rest : List Value) (object : ℕ) (chosen : Chosen)
          → Is (invoked values files site event (f w) slots ops rest object chosen) (invoked values files site event w slots ops rest object chosen)
      invoked_is slots ops rest object (Fails fault) = refl
      invoked_is slots ops rest object (Runs method) = runs_is slots ops rest object method (body_of files method)

      loads_is : (kind : ArrayKind) (slots : Slots Value) (ops rest : List Value)
          → Is ((load_of values files site kind).does event (f w) slots ops rest) ((load_of values files site kind).does event w slots ops rest)
      loads_is array_kind.Int slots ops rest = null_is (referent values ops 1) _ _ (λ o. index_is (in_range w o (int_operand values ops 0)) _ _ refl)
      loads_is array_kind.Reference slots ops rest = null_is (referent values ops 1) _ _ (λ o. index_is (in_range w o (int_operand values ops 0)) _ _ refl)
      loads_is array_kind.ByteOrBoolean slots ops rest = null_is (referent values ops 1) _ _ (λ o. index_is (in_range w o (int_operand values ops 0)) _ _ refl)
      loads_is array_kind.Char slots ops rest = null_is (referent values ops 1) _ _ (λ o. index_is (in_range w o (int_operand values ops 0)) _ _ refl)
      loads_is array_kind.Short slots ops rest = null_is (referent values ops 1) _ _ (λ o. index_is (in_range w o (int_operand values ops 0)) _ _ refl)

      stores_is : (kind : ArrayKind) (slots : Slots Value) (ops rest : List Value)
          → Is ((store_of values files site kind).does event (f w) slots ops rest) ((store_of values files site kind).does event w slots ops rest)
      stores_is array_kind.Int slots ops rest = null_is (referent values ops 2) _ _ (λ o. index_is (in_range w o (int_operand values ops 1)) _ _ refl)
      stores_is array_kind.Reference slots ops rest =
          null_is (referent values ops 2) _ _
          (λ o. index_is (in_range w o (int_operand values ops 1)) _ _ (storable_is (may_stand_in values files w (object_at w o) (operand values ops 0)) _ _ refl))
      stores_is array_kind.ByteOrBoolean slots ops rest = null_is (referent values ops 2) _ _ (λ o. index_is (in_range w o (int_operand values ops 1)) _ _ refl)
      stores_is array_kind.Char slots ops rest = null_is (referent values ops 2) _ _ (λ o. index_is (in_range w o (int_operand values ops 1)) _ _ refl)
      stores_is array_kind.Short slots ops rest = null_is (referent values ops 2) _ _ (λ o. index_is (in_range w o (int_operand values ops 1)) _ _ refl)

      call_same : (m : MeaningOf Value) → ((ops : List Value) → m.may event (f w) ops ≡ m.may event w ops)
          → ((slots : Slots Value) (ops rest : List Value) → Is (m.does event (f w) slots ops rest) (m.does event w slots ops rest)) → DoesSame m
      call_same m may does slots ops rest h = record { may = may ops ∙ h; does = does slots ops rest }

      return_same : (kind : Returned) → DoesSame (return_of values files site.method.descriptor kind)
      return_same returned.Nothing = call_same (return_of values files site.method.descriptor returned.Nothing) (λ ops. refl) (λ slots ops rest. refl)
      return_same returned.Int = call_same (return_of values files site.method.descriptor returned.Int) (λ ops. refl) (λ slots ops rest. refl)
      return_same returned.Reference = call_same (return_of values files site.method.descriptor returned.Reference) (λ ops. refl) (λ slots ops rest. refl)

      load_may : (kind : ArrayKind) (ops : List Value) → (load_of values files site kind).may event (f w) ops ≡ (load_of values files site kind).may event w ops
      load_may array_kind.Int ops = refl
      load_may array_kind.Reference ops = refl
      load_may array_kind.ByteOrBoolean ops = refl
      load_may array_kind.Char ops = refl
      load_may array_kind.Short ops = refl

      store_may : (kind : ArrayKind) (ops : List Value) → (store_of values files site kind).may event (f w) ops ≡ (store_of values files site kind).may event w ops
      store_may array_kind.Int ops = refl
      store_may array_kind.Reference ops = refl
      store_may array_kind.ByteOrBoolean ops = refl
      store_may array_kind.Char ops = refl
      store_may array_kind.Short ops = refl

      enter_may : (o : Option ℕ) → may_enter_object w v o ≡ true → may_enter_object (f w) v o ≡ true
      enter_may None h = refl
      enter_may (Some object) h = may_same object h

      enter_does : (o : Option ℕ) (slots : Slots Value) (rest : List Value) → may_enter_object w v o ≡ true
          → Is (not_null o (λ object. pushing_at (entry_cost (f w) object) site.next [] (with_entry (f w) v object) slots rest))
          (not_null o (λ object. pushing_at (entry_cost w object) site.next [] (with_entry w v object) slots rest))
      enter_does None slots rest h = refl
      enter_does (Some object) slots rest h =
          let n = entered_apart t r change c v ne w own object h in
          goes_is (entry_cost w object) (entry_cost (f w) object) (with_entry w v object) (with_entry (f w) v object) _ site.next (cost_same object n) (entered object n)

      same : (o : Operation files site) → DoesSame (operation values files site o)
      same (OfRow row e) = call_same (operation values files site (OfRow row e)) (λ ops. refl)
          (λ slots ops rest. row_is (row.fails (values.words ops)) _ _ refl _ refl)
      same (GetSystemStream index stream n) = call_same (operation values files site (GetSystemStream index stream n)) (λ ops. refl) (λ slots ops rest. refl)
      same (GetStatic g) = call_same (operation values files site (GetStatic g)) (λ ops. refl) (λ slots ops rest. refl)
      same (PutStatic g) = call_same (operation values files site (PutStatic g)) (λ ops. refl) (λ slots ops rest. refl)
      same (GetField g) = call_same (operation values files site (GetField g)) (λ ops. refl) (λ slots ops rest. null_is (referent values ops 0) _ _ (λ o. refl))
      same (PutField g) = call_same (operation values files site (PutField g)) (λ ops. refl) (λ slots ops rest. null_is (referent values ops 1) _ _ (λ o. refl))
      same (Println call e) = call_same (operation values files site (Println call e)) (λ ops. refl) (λ slots ops rest. null_is (referent values ops 1) _ _ (λ o. refl))
      same (CallVirtual call e m) =
          call_same (operation values files site (CallVirtual call e m)) (λ ops. invoke_may ops _) (λ slots ops rest. invoked_is slots ops rest _ _)
      same (CallConstructor call e passes) =
          call_same (operation values files site (CallConstructor call e passes)) (λ ops. invoke_may ops _) (λ slots ops rest. invoked_is slots ops rest _ _)
      same (CallSpecial call e m) =
          call_same (operation values files site (CallSpecial call e m)) (λ ops. invoke_may ops _) (λ slots ops rest. invoked_is slots ops rest _ _)
      same (CallStatic index i m) =
          call_same (operation values files site (CallStatic index i m)) (λ ops. invoke_may ops (Runs m.method))
          (λ slots ops rest. invoked_is slots ops rest (class_reference files m.method.class) (Runs m.method))
      same (CallInterface call m) =
          call_same (operation values files site (CallInterface call m)) (λ ops. invoke_may ops _) (λ slots ops rest. invoked_is slots ops rest _ _)
      same (Return kind i) = return_same kind
      same (LoadClass constant file e) = call_same (operation values files site (LoadClass constant file e)) (λ ops. refl) (λ slots ops rest. refl)
      same (LoadString constant) = call_same (operation values files site (LoadString constant)) (λ ops. refl) (λ slots ops rest. refl)
      same (New class file e) =
          call_same (operation values files site (New class file e)) (λ ops. refl)
          (λ slots ops rest.
          let made = new_instance values files class.name in
          goes_is (Makes (cells_of made)) (Makes (cells_of made)) (allocated w made) (allocated (f w) made) _ site.next refl (allocated_same t r change c v ne w own made))
      same (NewArray code of i e) =
          call_same (operation values files site (NewArray code of i e)) (λ ops. refl)
          (λ slots ops rest. array_is (is_negative (int_operand values ops 0)) site.next (int_operand values ops 0) (λ elements. Primitives of elements) (values.int 0) slots rest)
      same (NewReferenceArray class) =
          call_same (operation values files site (NewReferenceArray class)) (λ ops. refl)
          (λ slots ops rest. array_is (is_negative (int_operand values ops 0)) site.next (int_operand values ops 0) (λ elements. References (type_named class.name) elements) values.over.null slots rest)
      same (ArrayLength i) = call_same (operation values files site (ArrayLength i)) (λ ops. refl) (λ slots ops rest. null_is (referent values ops 0) _ _ (λ o. refl))
      same (LoadElement kind i) = call_same (operation values files site (LoadElement kind i)) (load_may kind) (loads_is kind)
      same (StoreElement kind i) = call_same (operation values files site (StoreElement kind i)) (store_may kind) (stores_is kind)
      same (CheckCast class) =
          call_same (operation values files site (CheckCast class)) (λ ops. refl) (λ slots ops rest. cast_is _ site.next (operand values ops 0) slots rest)
      same (InstanceOf class) = call_same (operation values files site (InstanceOf class)) (λ ops. refl) (λ slots ops rest. refl)
      same (Throw i) = call_same (operation values files site (Throw i)) (λ ops. refl) (λ slots ops rest. null_is (referent values ops 0) _ _ (λ o. refl))
      same (MonitorEnter i) = λ slots ops rest h.
          let p = and_parts (event.pick == 0) (may_enter_object w v (referent values ops 0)) h in
          record {
            may = and_from (event.pick == 0) (may_enter_object (f w) v (referent values ops 0)) p.0 (enter_may (referent values ops 0) p.1);
            does = enter_does (referent values ops 0) slots rest p.1;
          }
      same (MonitorExit i) =
          call_same (operation values files site (MonitorExit i)) (λ ops. refl)
          (λ slots ops rest. null_is (referent values ops 0) _ _
          (λ o. left_is (is_owner w v o) (is_owner (f w) v o) site.next o slots rest refl (owner_same t r change c v ne w own o)))

      pub meaning_same : OfMeaning DoesSame (meaning_of values files site)
      meaning_same = each_meaning values files site DoesSame same
