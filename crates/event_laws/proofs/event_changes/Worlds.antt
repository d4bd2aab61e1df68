-- What instructions and the methods of the machine leave of classes and threads.
use Rattle.std.proofs.Common.{◌≡◌, ℕ, List, [], ◌∷◌, Bool, true, false, Option, Some, None, refl}
use Rattle.std.specs.Prelude.{slice_get, is_some, if◌then◌else◌}
use Rattle.model.specs.declared.event.Event.{Event}
use Rattle.model.specs.Classes.{Program}
use Rattle.model.specs.Opening.{string_reference, string_references, opening_count}
use Rattle.model.specs.Operands.{Slots, Carrier}
use Rattle.model.specs.State.{ObjectOf, type_of, WorldOf, Monitor, Waiter, WakeCause, Notified, Interrupted, ThreadStatus, Running, Waiting, Relock, Ended}
use Rattle.model.specs.Outcomes.{OutcomeOf, Goes, Raises, Throws, Interrupts, Calls, Returns, Waits, not_null}
use Rattle.model.specs.Monitors as monitors
use Rattle.model.specs.Texts.{Text}
use Rattle.model.specs.Worlds.{thread_at, thread_of, is_alive, is_owner, object_at, with_object, with_text, with_monitors, with_interrupted, with_status, woken, all_woken, waiters_of}
use Rattle.model.specs.Sites.{pushing, referent, int_operand}
use Rattle.model.specs.StringMethods.{StringAnswer, IsNull, IsOutside, Answers, Same, Composes, string_answer}
use Rattle.model.specs.BuilderMethods as builder
use Rattle.model.specs.BuilderMethods.{BuilderAnswer, KeepsEmpty, Adds, GivesText, builds}
use Rattle.model.specs.ObjectMethods as telling
use Rattle.model.specs.ObjectMethods.{ObjectAnswer, HasNoClass, IsOf, object_answer, object_place, tells, type_at}
use Rattle.model.specs.BuiltInMethods.{BuiltInMethod, Construct, ConstructWithMessage, ConstructWithCause, ObjectClone, ObjectWait, ObjectNotify, ObjectNotifyAll, ThreadStart, ThreadInterrupt, ThreadIsInterrupted, ThreadInterrupted, ThreadYield, ThreadCurrentThread, ThreadJoin, ThreadIsAlive, ThreadNames, PrintStreamPrints, StringAnswers, StringWrites, StringBuilderBuilds, ObjectAnswers, object_of, string_operand, answered, waiting, wait_by, notified_one, notified, notified_all, if_owner, start_by, interrupted_in, interrupted_on, join_by, built_in_does}
use Rattle.model.specs.declared.name_method.NameMethod.{NameMethod}
use Rattle.model.specs.declared.name_method.NameMethod.TheVariants as naming
use Rattle.model.specs.Cloning.{is_cloneable, cloned}
use Rattle.model.specs.TextMethods as writing
use Rattle.model.specs.TextMethods.{TextAnswer, IsOutsideArray, Becomes, Stores, StandsFor, text_answer, units_operand, standing_for, gives_standing, is_blank, writes}
use Rattle.model.specs.ThreadNames.{kept_name, ordinal_text, gives_name, thread_names}
use Rattle.event_laws.proofs.event_changes.Changed.{Keeps, Leaves, keeps_same, keeps_then, keeps_thread, keeps_status, leaves_of, leaves_started}

-- what an instruction leaves of a world
abbrev pub OutcomeLeaves : {A : Type 0} → WorldOf A → OutcomeOf A → Type 0
OutcomeLeaves base (Goes cost after slots to) = Leaves base after
OutcomeLeaves base (Raises fault) = Unit {0}
OutcomeLeaves base (Throws exception) = Unit {0}
OutcomeLeaves base Interrupts = Unit {0}
OutcomeLeaves base (Calls frame rest) = Unit {0}
OutcomeLeaves base (Returns after results) = after ≡ base
OutcomeLeaves base (Waits cost after rest) = Leaves base after

module _ {A : Type 0} where
  pub leaves_same : (old new : WorldOf A) → new.classes ≡ old.classes → new.threads ≡ old.threads → Leaves old new
  leaves_same old new c t = leaves_of old new (keeps_same old new c t)

  pub leaves_it : (world : WorldOf A) → Leaves world world
  leaves_it world = leaves_same world world refl refl

  pub not_null_leaves : (base : WorldOf A) (o : Option ℕ) (go : ℕ → OutcomeOf A) → ((r : ℕ) → OutcomeLeaves base (go r)) → OutcomeLeaves base (not_null o go)
  not_null_leaves base None go h = tt
  not_null_leaves base (Some r) go h = h r

  woken_keeps : (object : ℕ) (cause : WakeCause) (world : WorldOf A) (w : Waiter) → Keeps world (woken object cause world w)
  woken_keeps object cause world w = keeps_status world w.thread (Relock object w.count cause) refl

  pub all_woken_keeps : (object : ℕ) (cause : WakeCause) (ws : List Waiter) (world : WorldOf A) → Keeps world (all_woken object cause world ws)
  all_woken_keeps object cause [] world = keeps_same world world refl refl
  all_woken_keeps object cause (w ∷ ws) world =
      keeps_then world (woken object cause world w) (all_woken object cause (woken object cause world w) ws) (woken_keeps object cause world w)
      (all_woken_keeps object cause ws (woken object cause world w))

  notified_one_keeps : (world : WorldOf A) (object : ℕ) (o : Option Waiter) → Keeps world (notified_one world object o)
  notified_one_keeps world object None = keeps_same world world refl refl
  notified_one_keeps world object (Some w) = woken_keeps object Notified world w

  module _ (world : WorldOf A) where
    monitors_keep : (after : monitors.Answered (List Monitor)) → Keeps world (with_monitors world after)
    monitors_keep after = keeps_same world (with_monitors world after) refl refl

    notified_keeps : (t object pick : ℕ) → Keeps world (notified world t object pick)
    notified_keeps t object pick =
        let left = with_monitors world (monitors.notify object t pick world.monitors) in
        keeps_then world left (notified world t object pick) (monitors_keep (monitors.notify object t pick world.monitors))
        (notified_one_keeps left object (slice_get (waiters_of world object) pick))

    notified_all_keeps : (t object : ℕ) → Keeps world (notified_all world t object)
    notified_all_keeps t object =
        let left = with_monitors world (monitors.notify_all object t world.monitors) in
        keeps_then world left (notified_all world t object) (monitors_keep (monitors.notify_all object t world.monitors))
        (all_woken_keeps object Notified (waiters_of world object) left)

    interrupted_keeps : (t : ℕ) (b : Bool) → Keeps world (with_interrupted world t b)
    interrupted_keeps t b = keeps_thread world t (record (thread_at world t) { interrupted = b }) (λ h. h) refl

  interrupted_in_keeps : (world : WorldOf A) (t : ℕ) (status : ThreadStatus) → Keeps world (interrupted_in world t status)
  interrupted_in_keeps world t Running = interrupted_keeps world t true
  interrupted_in_keeps world t (Waiting object count) =
      let left = with_monitors world (monitors.interrupt object t world.monitors) in
      let set = with_interrupted left t true in
      keeps_then world left (with_status set t (Relock object count Interrupted)) (monitors_keep world (monitors.interrupt object t world.monitors))
      (keeps_then left set (with_status set t (Relock object count Interrupted)) (interrupted_keeps left t true)
      (keeps_status set t (Relock object count Interrupted) refl))
  interrupted_in_keeps world t (Relock object count cause) = interrupted_keeps world t true
  interrupted_in_keeps world t (Ended exception) = keeps_same world world refl refl

  interrupted_on_keeps : (world : WorldOf A) (o : Option ℕ) → Keeps world (interrupted_on world o)
  interrupted_on_keeps world None = keeps_same world world refl refl
  interrupted_on_keeps world (Some t) = interrupted_in_keeps world t (thread_at world t).status

  module _ (world : WorldOf A) where
    abbrev leaves : OutcomeOf A → Type 0
    leaves o = OutcomeLeaves world o

    waiting_keeps : (t object : ℕ) → Keeps world (waiting world t object)
    waiting_keeps t object =
        let left = with_monitors world (monitors.wait object t world.monitors) in
        let status = Waiting object (monitors.monitor_at world.monitors object).count in
        keeps_then world left (with_status left t status) (monitors_keep world (monitors.wait object t world.monitors)) (keeps_status left t status refl)

    wait_by_leaves : (owns interrupted : Bool) (t object : ℕ) (rest : List A) → leaves (wait_by owns interrupted t object world rest)
    wait_by_leaves false interrupted t object rest = tt
    wait_by_leaves true true t object rest = tt
    wait_by_leaves true false t object rest = leaves_of world (waiting world t object) (waiting_keeps t object)

    owner_leaves : (b : Bool) (x : OutcomeOf A) → leaves x → leaves (if_owner b x)
    owner_leaves true x k = k
    owner_leaves false x k = tt

    start_leaves : (started : Bool) (next object : ℕ) (slots : Slots A) (rest : List A) → leaves (start_by started next object world slots rest)
    start_leaves true next object slots rest = tt
    start_leaves false next object slots rest = leaves_started world object

    join_leaves : (alive : Bool) (next : ℕ) (slots : Slots A) (rest : List A) → leaves (join_by alive next world slots rest)
    join_leaves true next slots rest = tt
    join_leaves false next slots rest = leaves_it world

    answered_leaves : (C : Carrier A) (answer : StringAnswer) (next : ℕ) (slots : Slots A) (ops rest : List A)
        → leaves (answered C answer next world slots ops rest)
    answered_leaves C IsNull next slots ops rest = tt
    answered_leaves C IsOutside next slots ops rest = tt
    answered_leaves C (Answers bits) next slots ops rest = leaves_it world
    answered_leaves C (Same k) next slots ops rest = leaves_it world
    answered_leaves C (Composes text) next slots ops rest = leaves_same world _ refl refl

    builds_leaves : (C : Carrier A) (empty : ℕ) (answer : BuilderAnswer) (next : ℕ) (slots : Slots A) (ops rest : List A)
        → leaves (builds C empty answer next world slots ops rest)
    builds_leaves C empty builder.IsNull next slots ops rest = tt
    builds_leaves C empty KeepsEmpty next slots ops rest = leaves_same world _ refl refl
    builds_leaves C empty builder.Keeps next slots ops rest = leaves_same world _ refl refl
    builds_leaves C empty (Adds added) next slots ops rest = leaves_same world _ refl refl
    builds_leaves C empty GivesText next slots ops rest = leaves_it world

    tells_leaves : (C : Carrier A) (files : Program) (answer : ObjectAnswer) (next : ℕ) (slots : Slots A) (rest : List A)
        → leaves (tells C files answer next world slots rest)
    tells_leaves C files telling.IsNull next slots rest = tt
    tells_leaves C files HasNoClass next slots rest = tt
    tells_leaves C files (telling.Answers bits) next slots rest = leaves_it world
    tells_leaves C files (IsOf class) next slots rest = leaves_it world
    tells_leaves C files (telling.Composes text) next slots rest = leaves_same world _ refl refl

    cloned_leaves : (C : Carrier A) (b : Bool) (object : ObjectOf A) (next : ℕ) (slots : Slots A) (rest : List A)
        → leaves (cloned C b object next world slots rest)
    cloned_leaves C true object next slots rest = leaves_same world _ refl refl
    cloned_leaves C false object next slots rest = tt

    blank_leaves : (b : Bool) (r : ℕ) (o : ObjectOf A) → Leaves world (if b then with_object world r o else world)
    blank_leaves true r o = leaves_same world _ refl refl
    blank_leaves false r o = leaves_it world

    standing_leaves : (C : Carrier A) (string : Option ℕ) (next : ℕ) (slots : Slots A) (ops rest : List A)
        → leaves (gives_standing C string next world slots ops rest)
    standing_leaves C None next slots ops rest = leaves_same world _ refl refl
    standing_leaves C (Some string) next slots ops rest = leaves_it world

    writes_leave : (C : Carrier A) (opened : ℕ) (constants : List ℕ) (answer : TextAnswer) (next : ℕ) (slots : Slots A) (ops rest : List A)
        → leaves (writes C opened constants answer next world slots ops rest)
    writes_leave C opened constants writing.IsNull next slots ops rest = tt
    writes_leave C opened constants writing.IsOutside next slots ops rest = tt
    writes_leave C opened constants IsOutsideArray next slots ops rest = tt
    writes_leave C opened constants (Becomes receiver text) next slots ops rest =
        blank_leaves (is_blank opened world (object_of C ops receiver)) (object_of C ops receiver) (with_text text (object_at world (object_of C ops receiver)))
    writes_leave C opened constants (Stores array index text) next slots ops rest = leaves_same world _ refl refl
    writes_leave C opened constants (StandsFor text) next slots ops rest = standing_leaves C (standing_for constants world text) next slots ops rest

    gives_name_leaves : (C : Carrier A) (name : Option ℕ) (text : Text) (next : ℕ) (slots : Slots A) (ops rest : List A)
        → leaves (gives_name C name text next world slots ops rest)
    gives_name_leaves C (Some name) text next slots ops rest = leaves_it world
    gives_name_leaves C None text next slots ops rest = leaves_same world _ refl refl

    names_leave : (C : Carrier A) (method : NameMethod) (next : ℕ) (slots : Slots A) (ops rest : List A)
        → leaves (thread_names C method next world slots ops rest)
    names_leave C naming.Construct next slots ops rest = leaves_same world _ refl refl
    names_leave C naming.ConstructWithTarget next slots ops rest = leaves_same world _ refl refl
    names_leave C naming.ConstructWithName next slots ops rest = not_null_leaves world (referent C ops 0) _ (λ r. leaves_same world _ refl refl)
    names_leave C naming.ConstructWithTargetAndName next slots ops rest = not_null_leaves world (referent C ops 0) _ (λ r. leaves_same world _ refl refl)
    names_leave C naming.GetName next slots ops rest =
        let o = object_at world (object_of C ops 0) in
        gives_name_leaves C (C.referent (kept_name C o)) (ordinal_text C o) next slots ops rest
    names_leave C naming.SetName next slots ops rest = not_null_leaves world (referent C ops 0) _ (λ r. leaves_same world _ refl refl)

    pub built_in_leaves : (C : Carrier A) (files : Program) (method : BuiltInMethod) (next : ℕ) (event : Event) (slots : Slots A) (ops rest : List A)
        → leaves (built_in_does C files method next event world slots ops rest)
    built_in_leaves C files Construct next event slots ops rest = leaves_it world
    built_in_leaves C files ConstructWithMessage next event slots ops rest = leaves_same world _ refl refl
    built_in_leaves C files ConstructWithCause next event slots ops rest = leaves_same world _ refl refl
    built_in_leaves C files ObjectClone next event slots ops rest =
        cloned_leaves C (is_cloneable files (type_of (object_at world (object_of C ops 0)))) (object_at world (object_of C ops 0)) next slots rest
    built_in_leaves C files ObjectWait next event slots ops rest =
        wait_by_leaves (is_owner world event.thread (object_of C ops 0)) (thread_at world event.thread).interrupted event.thread (object_of C ops 0) rest
    built_in_leaves C files ObjectNotify next event slots ops rest =
        owner_leaves (is_owner world event.thread (object_of C ops 0)) (pushing next [] (notified world event.thread (object_of C ops 0) event.pick) slots rest)
        (leaves_of world _ (notified_keeps world event.thread (object_of C ops 0) event.pick))
    built_in_leaves C files ObjectNotifyAll next event slots ops rest =
        owner_leaves (is_owner world event.thread (object_of C ops 0)) (pushing next [] (notified_all world event.thread (object_of C ops 0)) slots rest)
        (leaves_of world _ (notified_all_keeps world event.thread (object_of C ops 0)))
    built_in_leaves C files ThreadStart next event slots ops rest =
        start_leaves (is_some (thread_of world (object_of C ops 0))) next (object_of C ops 0) slots rest
    built_in_leaves C files ThreadInterrupt next event slots ops rest =
        leaves_of world _ (interrupted_on_keeps world (thread_of world (object_of C ops 0)))
    built_in_leaves C files ThreadIsInterrupted next event slots ops rest = leaves_it world
    built_in_leaves C files ThreadInterrupted next event slots ops rest = leaves_of world _ (interrupted_keeps world event.thread false)
    built_in_leaves C files ThreadYield next event slots ops rest = leaves_it world
    built_in_leaves C files ThreadCurrentThread next event slots ops rest = leaves_it world
    built_in_leaves C files ThreadJoin next event slots ops rest = join_leaves (is_alive world (object_of C ops 0)) next slots rest
    built_in_leaves C files ThreadIsAlive next event slots ops rest = leaves_it world
    built_in_leaves C files (ThreadNames called) next event slots ops rest = names_leave C called next slots ops rest
    built_in_leaves C files (PrintStreamPrints print) next event slots ops rest = leaves_same world _ refl refl
    built_in_leaves C files (StringAnswers called) next event slots ops rest =
        answered_leaves C (string_answer called (int_operand C ops) (string_operand C world ops)) next slots ops rest
    built_in_leaves C files (StringWrites called) next event slots ops rest =
        writes_leave C (opening_count files) (string_references files)
        (text_answer called (int_operand C ops) (string_operand C world ops) (units_operand C world ops)) next slots ops rest
    built_in_leaves C files (StringBuilderBuilds called) next event slots ops rest =
        builds_leaves C (string_reference files []) _ next slots ops rest
    built_in_leaves C files (ObjectAnswers called) next event slots ops rest = tells_leaves C files _ next slots rest
