-- What events and the methods of the machine make of a world in which counts are right.
use Rattle.std.proofs.Common.{◌≡◌, ℕ, zero, suc, List, [], ◌∷◌, Bool, true, false, Option, Some, None, refl}
use Rattle.std.specs.Prelude.{slice_get, is_some, if◌then◌else◌}
use Rattle.std.specs.Option.{is_none}
use Rattle.model.specs.Classes.{Program}
use Rattle.model.specs.Opening.{string_reference, string_references, opening_count}
use Rattle.model.specs.declared.event.Event.{Event}
use Rattle.model.specs.Operands.{Slots, Carrier}
use Rattle.model.specs.State.{ObjectOf, type_of, WorldOf, Waiter, WakeCause, Notified, Interrupted, ThreadStatus, Running, Waiting, Relock, Ended}
use Rattle.model.specs.ObjectMethods as telling
use Rattle.model.specs.ObjectMethods.{ObjectAnswer, HasNoClass, IsOf, object_answer, object_place, tells, type_at}
use Rattle.model.specs.BuilderMethods as building
use Rattle.model.specs.BuilderMethods.{BuilderAnswer, KeepsEmpty, Keeps, Adds, GivesText, builder_answer, builder_shown, builds}
use Rattle.model.specs.Outcomes.{Cost, Joins, OutcomeOf, Goes, Raises, Throws, Interrupts, Calls, Returns, Waits, not_null}
use Rattle.model.specs.Monitors as monitors
use Rattle.model.specs.Texts.{Text}
use Rattle.model.specs.StringMethods.{StringAnswer, IsNull, IsOutside, Answers, Same, Composes, string_answer}
use Rattle.model.specs.Monitors.{unlocked, owns, monitor_at}
use Rattle.model.specs.Worlds.{thread_at, thread_of, is_alive, is_owner, object_at, with_object, with_text, string_shown, with_monitors, with_entry, entry_cost, with_exit, with_status, with_interrupted, woken, all_woken, waiters_of}
use Rattle.model.specs.Sites.{referent, int_operand, pushing}
use Rattle.model.specs.BuiltInMethods.{BuiltInMethod, Construct, ConstructWithMessage, ConstructWithCause, ObjectClone, ObjectWait, ObjectNotify, ObjectNotifyAll, ThreadStart, ThreadInterrupt, ThreadIsInterrupted, ThreadInterrupted, ThreadYield, ThreadCurrentThread, ThreadJoin, ThreadIsAlive, ThreadNames, PrintStreamPrints, StringAnswers, StringWrites, StringBuilderBuilds, ObjectAnswers, object_of, waiting, wait_by, notified_one, notified, notified_all, if_owner, start_by, interrupted_in, interrupted_on, join_by, string_operand, answered, built_in_does}
use Rattle.model.specs.declared.name_method.NameMethod.{NameMethod}
use Rattle.model.specs.declared.name_method.NameMethod.TheVariants as naming
use Rattle.model.specs.Cloning.{is_cloneable, cloned}
use Rattle.model.specs.TextMethods as writing
use Rattle.model.specs.TextMethods.{TextAnswer, IsOutsideArray, Becomes, Stores, StandsFor, text_answer, units_operand, standing_for, gives_standing, is_blank, writes}
use Rattle.model.specs.ThreadNames.{kept_name, ordinal_text, gives_name, thread_names}
use Rattle.run_laws.specs.monitor_counts.Counts.{is_fat_after, IsStatusCounted, AreMonitorsCounted, Returns as ReturnsTo}
use Rattle.run_laws.proofs.monitor_counts.Counted.{Each, fat_still, fat_joined, counted_more, owner_entries, enter_counted, exit_counted, wait_counted, notify_counted, emptied_counted, interrupt_counted, relock_counted, as_owner_counted, with_one, with_same, more_threads, more_monitors, called}

-- what an instruction leaves, by the locks that are fat before it
abbrev pub OutcomeCounted : {A : Type 0} → (ℕ → Bool) → OutcomeOf A → Type 0
OutcomeCounted fat (Goes cost after slots to) = AreMonitorsCounted (is_fat_after cost fat) after
OutcomeCounted fat (Raises fault) = Unit {0}
OutcomeCounted fat (Throws exception) = Unit {0}
OutcomeCounted fat Interrupts = Unit {0}
OutcomeCounted fat (Calls frame rest) = Unit {0}
OutcomeCounted fat (Returns after results) = AreMonitorsCounted fat after
OutcomeCounted fat (Waits cost after rest) = AreMonitorsCounted (is_fat_after cost fat) after

module _ {A : Type 0} where
  pub not_null_counted : (fat : ℕ → Bool) (o : Option ℕ) (go : ℕ → OutcomeOf A) → ((r : ℕ) → OutcomeCounted fat (go r))
      → OutcomeCounted fat (not_null o go)
  not_null_counted fat None go h = tt
  not_null_counted fat (Some r) go h = h r

  -- what an event takes inflates no lock that another one needs thin
  pub at_cost : (cost : Cost) (fat : ℕ → Bool) (world : WorldOf A) → AreMonitorsCounted fat world
      → AreMonitorsCounted (is_fat_after cost fat) world
  at_cost cost fat world h = counted_more fat (is_fat_after cost fat) (fat_still cost fat) world.monitors world.threads h

  module _ (fat : ℕ → Bool) (world : WorldOf A) (h : AreMonitorsCounted fat world) where
    -- ---- monitors

    entered : (t r : ℕ) → AreMonitorsCounted fat (with_entry world t r)
    entered t r = called fat world.monitors world.threads r (monitors.monitor_enter t) (enter_counted fat r t) h

    pub entry_counted : (t r : ℕ) → AreMonitorsCounted (is_fat_after (entry_cost world r) fat) (with_entry world t r)
    entry_counted t r = at_cost (entry_cost world r) fat (with_entry world t r) (entered t r)

    pub exit_keeps : (t r : ℕ) → AreMonitorsCounted fat (with_exit world t r)
    exit_keeps t r = called fat world.monitors world.threads r (monitors.monitor_exit t) (exit_counted fat r t) h

    pub relock_keeps : (t r count : ℕ) → ReturnsTo fat r count
        → AreMonitorsCounted fat (with_monitors world (monitors.relock r t count world.monitors))
    relock_keeps t r count p = called fat world.monitors world.threads r (monitors.monitor_relock t count) (λ m. relock_counted fat r t count m p.entries) h

    -- ---- threads

    pub status_keeps : (t : ℕ) (status : ThreadStatus) → IsStatusCounted fat status → AreMonitorsCounted fat (with_status world t status)
    status_keeps t status p = with_one fat world.monitors world.threads t (record (thread_at world t) { status = status }) p h

    pub interrupted_keeps : (t : ℕ) (b : Bool) → AreMonitorsCounted fat (with_interrupted world t b)
    interrupted_keeps t b = with_same fat world.monitors world.threads t (record (thread_at world t) { interrupted = b }) refl h

  -- members of a wait set that leave it are to enter again
  pub all_woken_keeps : (fat : ℕ → Bool) (object : ℕ) (cause : WakeCause) (ws : List Waiter) (world : WorldOf A)
      → AreMonitorsCounted fat world → Each (λ (w : Waiter). ReturnsTo fat object w.count) ws
      → AreMonitorsCounted fat (all_woken object cause world ws)
  all_woken_keeps fat object cause [] world h each = h
  all_woken_keeps fat object cause (w ∷ ws) world h each =
      all_woken_keeps fat object cause ws (woken object cause world w) (status_keeps fat world h w.thread (Relock object w.count cause) (each zero w refl)) (λ k. each (suc k))

  -- ---- wait, notify, notifyAll, interrupt, and the end of a thread (JLS 17.2)

  module _ (fat : ℕ → Bool) (world : WorldOf A) (h : AreMonitorsCounted fat world) where
    notified_one_keeps : (after : WorldOf A) (object : ℕ) (o : Option Waiter) → AreMonitorsCounted fat after
        → ((w : Waiter) → o ≡ Some w → ReturnsTo fat object w.count) → AreMonitorsCounted fat (notified_one after object o)
    notified_one_keeps after object None k p = k
    notified_one_keeps after object (Some w) k p = status_keeps fat after k w.thread (Relock object w.count Notified) (p w refl)

    pub notified_keeps : (t object pick : ℕ) → AreMonitorsCounted fat (notified world t object pick)
    notified_keeps t object pick =
        notified_one_keeps (with_monitors world (monitors.notify object t pick world.monitors)) object (slice_get (waiters_of world object) pick)
        (called fat world.monitors world.threads object (monitors.monitor_notify t pick) (notify_counted fat object t pick) h)
        ((h.monitors_are object).waiters pick)

    pub notified_all_keeps : (t object : ℕ) → AreMonitorsCounted fat (notified_all world t object)
    notified_all_keeps t object =
        all_woken_keeps fat object Notified (waiters_of world object) (with_monitors world (monitors.notify_all object t world.monitors))
        (called fat world.monitors world.threads object (monitors.monitor_notify_all t) (λ m k. as_owner_counted fat object t m (record m { waiters = [] }) (λ own. emptied_counted fat object m k) k) h)
        (h.monitors_are object).waiters

    pub all_leave : (object : ℕ) → AreMonitorsCounted
        fat (all_woken object Notified (with_monitors world (monitors.wake_all object world.monitors)) (waiters_of world object))
    all_leave object =
        all_woken_keeps fat object Notified (waiters_of world object) (with_monitors world (monitors.wake_all object world.monitors))
        (called fat world.monitors world.threads object monitors.monitor_wake_all (emptied_counted fat object) h)
        (h.monitors_are object).waiters

    interrupted_in_keeps : (t : ℕ) (status : ThreadStatus) → IsStatusCounted fat status
        → AreMonitorsCounted fat (interrupted_in world t status)
    interrupted_in_keeps t Running p = interrupted_keeps fat world h t true
    interrupted_in_keeps t (Waiting object count) p =
        let left = with_monitors world (monitors.interrupt object t world.monitors) in
        let x : AreMonitorsCounted fat left = called fat world.monitors world.threads object (monitors.monitor_interrupt t) (interrupt_counted fat object t) h in
        status_keeps fat (with_interrupted left t true) (interrupted_keeps fat left x t true) t (Relock object count Interrupted) p
    interrupted_in_keeps t (Relock object count cause) p = interrupted_keeps fat world h t true
    interrupted_in_keeps t (Ended exception) p = h

    interrupted_on_keeps : (o : Option ℕ) → AreMonitorsCounted fat (interrupted_on world o)
    interrupted_on_keeps None = h
    interrupted_on_keeps (Some t) = interrupted_in_keeps t (thread_at world t).status (h.statuses_are t)

    -- the thread joins the wait set with its entries, of which there are some
    waiting_keeps : (t object : ℕ) → is_owner world t object ≡ true
        → AreMonitorsCounted (is_fat_after (Joins object) fat) (waiting world t object)
    waiting_keeps t object own =
        let is = is_fat_after (Joins object) fat in
        let m = monitor_at world.monitors object in
        let k = at_cost (Joins object) fat world h in
        let fat_is : is object ≡ true = fat_joined fat object in
        let left = with_monitors world (monitors.wait object t world.monitors) in
        let x : AreMonitorsCounted is left = called is world.monitors world.threads object (monitors.monitor_wait t) (λ n. wait_counted is object t n fat_is) k in
        status_keeps is left x t (Waiting object m.count) (record { entries = owner_entries m.owner t m.count own (h.monitors_are object).owner; lock = fat_is })

    -- ---- methods of the machine

    wait_by_counted : (owns interrupted : Bool) (t object : ℕ) (rest : List A) → is_owner world t object ≡ owns
        → OutcomeCounted fat (wait_by owns interrupted t object world rest)
    wait_by_counted false interrupted t object rest e = tt
    wait_by_counted true true t object rest e = tt
    wait_by_counted true false t object rest e = waiting_keeps t object e

    owner_counted : (b : Bool) (x : OutcomeOf A) → OutcomeCounted fat x → OutcomeCounted fat (if_owner b x)
    owner_counted true x k = k
    owner_counted false x k = tt

    start_counted : (started : Bool) (next object : ℕ) (slots : Slots A) (rest : List A)
        → OutcomeCounted fat (start_by started next object world slots rest)
    start_counted true next object slots rest = tt
    start_counted false next object slots rest = more_threads fat world.monitors world.threads object h

    join_counted : (alive : Bool) (next : ℕ) (slots : Slots A) (rest : List A) → OutcomeCounted fat (join_by alive next world slots rest)
    join_counted true next slots rest = tt
    join_counted false next slots rest = h

    -- a new String has a monitor that nobody owns
    answered_counted : (C : Carrier A) (answer : StringAnswer) (next : ℕ) (slots : Slots A) (ops rest : List A)
        → OutcomeCounted fat (answered C answer next world slots ops rest)
    answered_counted C IsNull next slots ops rest = tt
    answered_counted C IsOutside next slots ops rest = tt
    answered_counted C (Answers bits) next slots ops rest = h
    answered_counted C (Same k) next slots ops rest = h
    answered_counted C (Composes text) next slots ops rest = more_monitors fat world.monitors world.threads h

    builds_counted : (C : Carrier A) (empty : ℕ) (answer : BuilderAnswer) (next : ℕ) (slots : Slots A) (ops rest : List A)
        → OutcomeCounted fat (builds C empty answer next world slots ops rest)
    builds_counted C empty building.IsNull next slots ops rest = tt
    builds_counted C empty KeepsEmpty next slots ops rest = h
    builds_counted C empty Keeps next slots ops rest = h
    builds_counted C empty (Adds added) next slots ops rest = more_monitors fat world.monitors world.threads h
    builds_counted C empty GivesText next slots ops rest = h

    tells_counted : (C : Carrier A) (files : Program) (answer : ObjectAnswer) (next : ℕ) (slots : Slots A) (rest : List A)
        → OutcomeCounted fat (tells C files answer next world slots rest)
    tells_counted C files telling.IsNull next slots rest = tt
    tells_counted C files HasNoClass next slots rest = tt
    tells_counted C files (telling.Answers bits) next slots rest = h
    tells_counted C files (IsOf class) next slots rest = h
    tells_counted C files (telling.Composes text) next slots rest = more_monitors fat world.monitors world.threads h

    cloned_counted : (C : Carrier A) (b : Bool) (object : ObjectOf A) (next : ℕ) (slots : Slots A) (rest : List A)
        → OutcomeCounted fat (cloned C b object next world slots rest)
    cloned_counted C true object next slots rest = more_monitors fat world.monitors world.threads h
    cloned_counted C false object next slots rest = tt

    -- a String or an array that is changed keeps its monitor
    blank_counted : (b : Bool) (r : ℕ) (o : ObjectOf A) → AreMonitorsCounted fat (if b then with_object world r o else world)
    blank_counted true r o = h
    blank_counted false r o = h

    standing_counted : (C : Carrier A) (string : Option ℕ) (next : ℕ) (slots : Slots A) (ops rest : List A)
        → OutcomeCounted fat (gives_standing C string next world slots ops rest)
    standing_counted C None next slots ops rest = h
    standing_counted C (Some string) next slots ops rest = h

    writes_counted : (C : Carrier A) (opened : ℕ) (constants : List ℕ) (answer : TextAnswer) (next : ℕ) (slots : Slots A) (ops rest : List A)
        → OutcomeCounted fat (writes C opened constants answer next world slots ops rest)
    writes_counted C opened constants writing.IsNull next slots ops rest = tt
    writes_counted C opened constants writing.IsOutside next slots ops rest = tt
    writes_counted C opened constants IsOutsideArray next slots ops rest = tt
    writes_counted C opened constants (Becomes receiver text) next slots ops rest =
        let o = object_of C ops receiver in
        blank_counted (is_blank opened world o) o (with_text text (object_at world o))
    writes_counted C opened constants (Stores array index text) next slots ops rest = h
    writes_counted C opened constants (StandsFor text) next slots ops rest = standing_counted C (standing_for constants world text) next slots ops rest

    gives_name_counted : (C : Carrier A) (name : Option ℕ) (text : Text) (next : ℕ) (slots : Slots A) (ops rest : List A)
        → OutcomeCounted fat (gives_name C name text next world slots ops rest)
    gives_name_counted C (Some name) text next slots ops rest = h
    gives_name_counted C None text next slots ops rest = more_monitors fat world.monitors world.threads h

    names_counted : (C : Carrier A) (method : NameMethod) (next : ℕ) (slots : Slots A) (ops rest : List A)
        → OutcomeCounted fat (thread_names C method next world slots ops rest)
    names_counted C naming.Construct next slots ops rest = h
    names_counted C naming.ConstructWithTarget next slots ops rest = h
    names_counted C naming.ConstructWithName next slots ops rest = not_null_counted fat (referent C ops 0) _ (λ r. h)
    names_counted C naming.ConstructWithTargetAndName next slots ops rest = not_null_counted fat (referent C ops 0) _ (λ r. h)
    names_counted C naming.GetName next slots ops rest =
        let o = object_at world (object_of C ops 0) in
        gives_name_counted C (C.referent (kept_name C o)) (ordinal_text C o) next slots ops rest
    names_counted C naming.SetName next slots ops rest = not_null_counted fat (referent C ops 0) _ (λ r. h)

    pub built_in_counted : (C : Carrier A) (files : Program) (method : BuiltInMethod) (next : ℕ) (event : Event) (slots : Slots A) (ops rest : List A)
        → OutcomeCounted fat (built_in_does C files method next event world slots ops rest)
    built_in_counted C files Construct next event slots ops rest = h
    built_in_counted C files ConstructWithMessage next event slots ops rest = h
    built_in_counted C files ConstructWithCause next event slots ops rest = h
    built_in_counted C files ObjectClone next event slots ops rest =
        cloned_counted C (is_cloneable files (type_of (object_at world (object_of C ops 0)))) (object_at world (object_of C ops 0)) next slots rest
    built_in_counted C files ObjectWait next event slots ops rest =
        wait_by_counted (is_owner world event.thread (object_of C ops 0)) (thread_at world event.thread).interrupted event.thread (object_of C ops 0) rest refl
    built_in_counted C files ObjectNotify next event slots ops rest =
        owner_counted (is_owner world event.thread (object_of C ops 0)) (pushing next [] (notified world event.thread (object_of C ops 0) event.pick) slots rest)
        (notified_keeps event.thread (object_of C ops 0) event.pick)
    built_in_counted C files ObjectNotifyAll next event slots ops rest =
        owner_counted (is_owner world event.thread (object_of C ops 0)) (pushing next [] (notified_all world event.thread (object_of C ops 0)) slots rest)
        (notified_all_keeps event.thread (object_of C ops 0))
    built_in_counted C files ThreadStart next event slots ops rest = start_counted (is_some (thread_of world (object_of C ops 0))) next (object_of C ops 0) slots rest
    built_in_counted C files ThreadInterrupt next event slots ops rest = interrupted_on_keeps (thread_of world (object_of C ops 0))
    built_in_counted C files ThreadIsInterrupted next event slots ops rest = h
    built_in_counted C files ThreadInterrupted next event slots ops rest = interrupted_keeps fat world h event.thread false
    built_in_counted C files ThreadYield next event slots ops rest = h
    built_in_counted C files ThreadCurrentThread next event slots ops rest = h
    built_in_counted C files ThreadJoin next event slots ops rest = join_counted (is_alive world (object_of C ops 0)) next slots rest
    built_in_counted C files ThreadIsAlive next event slots ops rest = h
    built_in_counted C files (ThreadNames method) next event slots ops rest = names_counted C method next slots ops rest
    built_in_counted C files (PrintStreamPrints print) next event slots ops rest = h
    built_in_counted C files (StringAnswers method) next event slots ops rest =
        answered_counted C (string_answer method (int_operand C ops) (string_operand C world ops)) next slots ops rest
    built_in_counted C files (StringWrites method) next event slots ops rest =
        writes_counted C (opening_count files) (string_references files)
        (text_answer method (int_operand C ops) (string_operand C world ops) (units_operand C world ops)) next slots ops rest
    built_in_counted C files (StringBuilderBuilds method) next event slots ops rest =
        builds_counted C (string_reference files [])
        (builder_answer method (int_operand C ops 0) (is_none (referent C ops 0)) (string_shown world (referent C ops 0)) (builder_shown C world (referent C ops 0)))
        next slots ops rest
    built_in_counted C files (ObjectAnswers method) next event slots ops rest =
        tells_counted C files (object_answer files method (referent C ops (object_place method)) (type_at world) (int_operand C ops 0)) next slots rest
