-- What instructions and the methods of the machine make of a world keeps owners.
use Rattle.std.proofs.Common.{◌≡◌, ℕ, List, [], ◌∷◌, Bool, true, false, Option, Some, None, refl, ap, ◌∙◌}
use Rattle.std.specs.Prelude.{slice_get, is_some, if◌then◌else◌}
use Rattle.model.specs.declared.event.Event.{Event}
use Rattle.model.specs.Classes.{Program}
use Rattle.model.specs.Opening.{string_reference, string_references, opening_count}
use Rattle.model.specs.Operands.{Slots, Carrier}
use Rattle.model.specs.State.{ObjectOf, type_of, Monitor, WorldOf, Waiter, WakeCause, Notified, ThreadStatus, Running, Waiting, Relock, Ended}
use Rattle.model.specs.Outcomes.{OutcomeOf, Goes, Raises, Throws, Interrupts, Calls, Returns, Waits, not_null}
use Rattle.model.specs.Monitors as monitors
use Rattle.model.specs.Texts.{Text}
use Rattle.model.specs.Worlds.{thread_at, thread_of, is_alive, is_owner, object_at, with_object, with_text, with_monitors, woken, all_woken, waiters_of}
use Rattle.model.specs.Sites.{pushing, referent, int_operand}
use Rattle.model.specs.StringMethods.{StringAnswer, IsNull, IsOutside, Answers, Same, Composes, string_answer}
use Rattle.model.specs.BuilderMethods as builder
use Rattle.model.specs.BuilderMethods.{BuilderAnswer, KeepsEmpty, Keeps, Adds, GivesText, builds}
use Rattle.model.specs.ObjectMethods as telling
use Rattle.model.specs.ObjectMethods.{ObjectAnswer, HasNoClass, IsOf, object_answer, object_place, tells, type_at}
use Rattle.model.specs.BuiltInMethods.{BuiltInMethod, Construct, ConstructWithMessage, ConstructWithCause, ObjectClone, ObjectWait, ObjectNotify, ObjectNotifyAll, ThreadStart, ThreadInterrupt, ThreadIsInterrupted, ThreadInterrupted, ThreadYield, ThreadCurrentThread, ThreadJoin, ThreadIsAlive, ThreadNames, PrintStreamPrints, StringAnswers, StringWrites, StringBuilderBuilds, ObjectAnswers, object_of, string_operand, answered, wait_by, notified_one, notified, notified_all, if_owner, start_by, interrupted_in, interrupted_on, join_by, built_in_does}
use Rattle.model.specs.declared.name_method.NameMethod.{NameMethod}
use Rattle.model.specs.declared.name_method.NameMethod.TheVariants as naming
use Rattle.model.specs.Cloning.{is_cloneable, cloned}
use Rattle.model.specs.TextMethods as writing
use Rattle.model.specs.TextMethods.{TextAnswer, IsOutsideArray, Becomes, Stores, StandsFor, text_answer, units_operand, standing_for, gives_standing, is_blank, writes}
use Rattle.model.specs.ThreadNames.{kept_name, ordinal_text, gives_name, thread_names}
use Rattle.monitor_laws.specs.owners.Owners.{KeepsOwners}
use Rattle.monitor_laws.proofs.owners.Monitors.{any_keeps, more_keeps, call_changes, call_keeps, as_owner_keeps}

-- what an instruction leaves, by the object of its monitor operand and the one that it may wait on
abbrev pub OutcomeKept : {A : Type 0} → Option ℕ → ℕ → List Monitor → OutcomeOf A → Type 0
OutcomeKept o w base (Goes cost after slots to) = KeepsOwners o base after.monitors
OutcomeKept o w base (Raises fault) = Unit {0}
OutcomeKept o w base (Throws exception) = Unit {0}
OutcomeKept o w base Interrupts = Unit {0}
OutcomeKept o w base (Calls frame rest) = Unit {0}
OutcomeKept o w base (Returns after results) = after.monitors ≡ base
OutcomeKept o w base (Waits cost after rest) = KeepsOwners (Some w) base after.monitors

pub same_kept : (o : Option ℕ) (base : List Monitor) → KeepsOwners o base base
same_kept o base other e = refl

pub equal_kept : (o : Option ℕ) (base ms : List Monitor) → ms ≡ base → KeepsOwners o base ms
equal_kept o base ms e other m = ap (λ (l : List Monitor). (monitors.monitor_at l other).owner) e

module _ {A : Type 0} where
  pub not_null_kept : (p : Option ℕ) (w : ℕ) (base : List Monitor) (o : Option ℕ) (go : ℕ → OutcomeOf A)
      → ((r : ℕ) → o ≡ Some r → OutcomeKept p w base (go r)) → OutcomeKept p w base (not_null o go)
  not_null_kept p w base None go h = tt
  not_null_kept p w base (Some r) go h = h r refl

  -- members of a wait set that leave it change no monitor
  pub all_woken_same : (object : ℕ) (cause : WakeCause) (ws : List Waiter) (world : WorldOf A)
      → (all_woken object cause world ws).monitors ≡ world.monitors
  all_woken_same object cause [] world = refl
  all_woken_same object cause (w ∷ ws) world = all_woken_same object cause ws (woken object cause world w)

  notified_one_same : (after : WorldOf A) (object : ℕ) (o : Option Waiter) → (notified_one after object o).monitors ≡ after.monitors
  notified_one_same after object None = refl
  notified_one_same after object (Some w) = refl

  module _ (world : WorldOf A) where
    by_equal : (ms : List Monitor) (after : WorldOf A) → after.monitors ≡ ms → KeepsOwners None world.monitors ms → KeepsOwners None world.monitors after.monitors
    by_equal ms after e h other m = ap (λ (l : List Monitor). (monitors.monitor_at l other).owner) e ∙ h other m

    notified_keeps : (t object pick : ℕ) → KeepsOwners None world.monitors (notified world t object pick).monitors
    notified_keeps t object pick =
        by_equal (monitors.notify object t pick world.monitors).after (notified world t object pick)
        (notified_one_same (with_monitors world (monitors.notify object t pick world.monitors)) object (slice_get (waiters_of world object) pick))
        (call_keeps object (monitors.monitor_notify t pick) world.monitors (λ m. as_owner_keeps t m _ refl))

    notified_all_keeps : (t object : ℕ) → KeepsOwners None world.monitors (notified_all world t object).monitors
    notified_all_keeps t object =
        by_equal (monitors.notify_all object t world.monitors).after (notified_all world t object)
        (all_woken_same object Notified (waiters_of world object) (with_monitors world (monitors.notify_all object t world.monitors)))
        (call_keeps object (monitors.monitor_notify_all t) world.monitors (λ m. as_owner_keeps t m (record m { waiters = [] }) refl))

    pub all_leave : (object : ℕ) → KeepsOwners None world.monitors
        (all_woken object Notified (with_monitors world (monitors.wake_all object world.monitors)) (waiters_of world object)).monitors
    all_leave object =
        by_equal (monitors.wake_all object world.monitors).after
        (all_woken object Notified (with_monitors world (monitors.wake_all object world.monitors)) (waiters_of world object))
        (all_woken_same object Notified (waiters_of world object) (with_monitors world (monitors.wake_all object world.monitors)))
        (call_keeps object monitors.monitor_wake_all world.monitors (λ m. refl))

    interrupted_in_keeps : (t : ℕ) (status : ThreadStatus) → KeepsOwners None world.monitors (interrupted_in world t status).monitors
    interrupted_in_keeps t Running = same_kept None world.monitors
    interrupted_in_keeps t (Waiting object count) = call_keeps object (monitors.monitor_interrupt t) world.monitors (λ m. refl)
    interrupted_in_keeps t (Relock object count cause) = same_kept None world.monitors
    interrupted_in_keeps t (Ended exception) = same_kept None world.monitors

    interrupted_on_keeps : (o : Option ℕ) → KeepsOwners None world.monitors (interrupted_on world o).monitors
    interrupted_on_keeps None = same_kept None world.monitors
    interrupted_on_keeps (Some t) = interrupted_in_keeps t (thread_at world t).status

    module _ (p : Option ℕ) (w : ℕ) where
      abbrev kept : OutcomeOf A → Type 0
      kept o = OutcomeKept p w world.monitors o

      wait_by_kept : (owns interrupted : Bool) (t : ℕ) (rest : List A) → kept (wait_by owns interrupted t w world rest)
      wait_by_kept false interrupted t rest = tt
      wait_by_kept true true t rest = tt
      wait_by_kept true false t rest = call_changes w (monitors.monitor_wait t) world.monitors

      owner_kept : (b : Bool) (x : OutcomeOf A) → kept x → kept (if_owner b x)
      owner_kept true x k = k
      owner_kept false x k = tt

      start_kept : (started : Bool) (next object : ℕ) (slots : Slots A) (rest : List A) → kept (start_by started next object world slots rest)
      start_kept true next object slots rest = tt
      start_kept false next object slots rest = same_kept p world.monitors

      join_kept : (alive : Bool) (next : ℕ) (slots : Slots A) (rest : List A) → kept (join_by alive next world slots rest)
      join_kept true next slots rest = tt
      join_kept false next slots rest = same_kept p world.monitors

      -- the monitor of a new String is owned by nobody
      answered_kept : (C : Carrier A) (answer : StringAnswer) (next : ℕ) (slots : Slots A) (ops rest : List A)
          → kept (answered C answer next world slots ops rest)
      answered_kept C IsNull next slots ops rest = tt
      answered_kept C IsOutside next slots ops rest = tt
      answered_kept C (Answers bits) next slots ops rest = same_kept p world.monitors
      answered_kept C (Same k) next slots ops rest = same_kept p world.monitors
      answered_kept C (Composes text) next slots ops rest = any_keeps p world.monitors _ (more_keeps world.monitors)

      -- so is that of the text of a StringBuilder
      builds_kept : (C : Carrier A) (empty : ℕ) (answer : BuilderAnswer) (next : ℕ) (slots : Slots A) (ops rest : List A)
          → kept (builds C empty answer next world slots ops rest)
      builds_kept C empty builder.IsNull next slots ops rest = tt
      builds_kept C empty KeepsEmpty next slots ops rest = same_kept p world.monitors
      builds_kept C empty Keeps next slots ops rest = same_kept p world.monitors
      builds_kept C empty (Adds added) next slots ops rest = any_keeps p world.monitors _ (more_keeps world.monitors)
      builds_kept C empty GivesText next slots ops rest = same_kept p world.monitors

      -- and of what an object tells
      tells_kept : (C : Carrier A) (files : Program) (answer : ObjectAnswer) (next : ℕ) (slots : Slots A) (rest : List A)
          → kept (tells C files answer next world slots rest)
      tells_kept C files telling.IsNull next slots rest = tt
      tells_kept C files HasNoClass next slots rest = tt
      tells_kept C files (telling.Answers bits) next slots rest = same_kept p world.monitors
      tells_kept C files (IsOf class) next slots rest = same_kept p world.monitors
      tells_kept C files (telling.Composes text) next slots rest = any_keeps p world.monitors _ (more_keeps world.monitors)

      -- and that of a copy
      cloned_kept : (C : Carrier A) (b : Bool) (object : ObjectOf A) (next : ℕ) (slots : Slots A) (rest : List A)
          → kept (cloned C b object next world slots rest)
      cloned_kept C true object next slots rest = any_keeps p world.monitors _ (more_keeps world.monitors)
      cloned_kept C false object next slots rest = tt

      -- what is changed keeps its monitor
      blank_kept : (b : Bool) (r : ℕ) (o : ObjectOf A) → KeepsOwners p world.monitors (if b then with_object world r o else world).monitors
      blank_kept true r o = same_kept p world.monitors
      blank_kept false r o = same_kept p world.monitors

      standing_kept : (C : Carrier A) (string : Option ℕ) (next : ℕ) (slots : Slots A) (ops rest : List A)
          → kept (gives_standing C string next world slots ops rest)
      standing_kept C None next slots ops rest = same_kept p world.monitors
      standing_kept C (Some string) next slots ops rest = same_kept p world.monitors

      writes_kept : (C : Carrier A) (opened : ℕ) (constants : List ℕ) (answer : TextAnswer) (next : ℕ) (slots : Slots A) (ops rest : List A)
          → kept (writes C opened constants answer next world slots ops rest)
      writes_kept C opened constants writing.IsNull next slots ops rest = tt
      writes_kept C opened constants writing.IsOutside next slots ops rest = tt
      writes_kept C opened constants IsOutsideArray next slots ops rest = tt
      writes_kept C opened constants (Becomes receiver text) next slots ops rest =
          blank_kept (is_blank opened world (object_of C ops receiver)) (object_of C ops receiver) (with_text text (object_at world (object_of C ops receiver)))
      writes_kept C opened constants (Stores array index text) next slots ops rest = same_kept p world.monitors
      writes_kept C opened constants (StandsFor text) next slots ops rest = standing_kept C (standing_for constants world text) next slots ops rest

      gives_name_kept : (C : Carrier A) (name : Option ℕ) (text : Text) (next : ℕ) (slots : Slots A) (ops rest : List A)
          → kept (gives_name C name text next world slots ops rest)
      gives_name_kept C (Some name) text next slots ops rest = same_kept p world.monitors
      gives_name_kept C None text next slots ops rest = any_keeps p world.monitors _ (more_keeps world.monitors)

      names_kept : (C : Carrier A) (method : NameMethod) (next : ℕ) (slots : Slots A) (ops rest : List A)
          → kept (thread_names C method next world slots ops rest)
      names_kept C naming.Construct next slots ops rest = same_kept p world.monitors
      names_kept C naming.ConstructWithTarget next slots ops rest = same_kept p world.monitors
      names_kept C naming.ConstructWithName next slots ops rest = not_null_kept p w world.monitors (referent C ops 0) _ (λ r e. same_kept p world.monitors)
      names_kept C naming.ConstructWithTargetAndName next slots ops rest =
          not_null_kept p w world.monitors (referent C ops 0) _ (λ r e. same_kept p world.monitors)
      names_kept C naming.GetName next slots ops rest =
          let o = object_at world (object_of C ops 0) in
          gives_name_kept C (C.referent (kept_name C o)) (ordinal_text C o) next slots ops rest
      names_kept C naming.SetName next slots ops rest = not_null_kept p w world.monitors (referent C ops 0) _ (λ r e. same_kept p world.monitors)

    pub built_in_kept : (p : Option ℕ) (C : Carrier A) (files : Program) (method : BuiltInMethod) (next : ℕ) (event : Event) (slots : Slots A) (ops rest : List A)
        → OutcomeKept p (object_of C ops 0) world.monitors (built_in_does C files method next event world slots ops rest)
    built_in_kept p C files Construct next event slots ops rest = same_kept p world.monitors
    built_in_kept p C files ConstructWithMessage next event slots ops rest = same_kept p world.monitors
    built_in_kept p C files ConstructWithCause next event slots ops rest = same_kept p world.monitors
    built_in_kept p C files ObjectClone next event slots ops rest =
        cloned_kept p (object_of C ops 0) C (is_cloneable files (type_of (object_at world (object_of C ops 0)))) (object_at world (object_of C ops 0)) next slots rest
    built_in_kept p C files ObjectWait next event slots ops rest =
        wait_by_kept p (object_of C ops 0) (is_owner world event.thread (object_of C ops 0)) (thread_at world event.thread).interrupted event.thread rest
    built_in_kept p C files ObjectNotify next event slots ops rest =
        owner_kept p (object_of C ops 0) (is_owner world event.thread (object_of C ops 0))
        (pushing next [] (notified world event.thread (object_of C ops 0) event.pick) slots rest)
        (any_keeps p world.monitors (notified world event.thread (object_of C ops 0) event.pick).monitors (notified_keeps event.thread (object_of C ops 0) event.pick))
    built_in_kept p C files ObjectNotifyAll next event slots ops rest =
        owner_kept p (object_of C ops 0) (is_owner world event.thread (object_of C ops 0))
        (pushing next [] (notified_all world event.thread (object_of C ops 0)) slots rest)
        (any_keeps p world.monitors (notified_all world event.thread (object_of C ops 0)).monitors (notified_all_keeps event.thread (object_of C ops 0)))
    built_in_kept p C files ThreadStart next event slots ops rest =
        start_kept p (object_of C ops 0) (is_some (thread_of world (object_of C ops 0))) next (object_of C ops 0) slots rest
    built_in_kept p C files ThreadInterrupt next event slots ops rest =
        any_keeps p world.monitors (interrupted_on world (thread_of world (object_of C ops 0))).monitors (interrupted_on_keeps (thread_of world (object_of C ops 0)))
    built_in_kept p C files ThreadIsInterrupted next event slots ops rest = same_kept p world.monitors
    built_in_kept p C files ThreadInterrupted next event slots ops rest = same_kept p world.monitors
    built_in_kept p C files ThreadYield next event slots ops rest = same_kept p world.monitors
    built_in_kept p C files ThreadCurrentThread next event slots ops rest = same_kept p world.monitors
    built_in_kept p C files ThreadJoin next event slots ops rest = join_kept p (object_of C ops 0) (is_alive world (object_of C ops 0)) next slots rest
    built_in_kept p C files ThreadIsAlive next event slots ops rest = same_kept p world.monitors
    built_in_kept p C files (ThreadNames called) next event slots ops rest = names_kept p (object_of C ops 0) C called next slots ops rest
    built_in_kept p C files (PrintStreamPrints print) next event slots ops rest = same_kept p world.monitors
    built_in_kept p C files (StringAnswers called) next event slots ops rest =
        answered_kept p (object_of C ops 0) C (string_answer called (int_operand C ops) (string_operand C world ops)) next slots ops rest
    built_in_kept p C files (StringWrites called) next event slots ops rest =
        writes_kept p (object_of C ops 0) C (opening_count files) (string_references files)
        (text_answer called (int_operand C ops) (string_operand C world ops) (units_operand C world ops)) next slots ops rest
    built_in_kept p C files (StringBuilderBuilds called) next event slots ops rest =
        builds_kept p (object_of C ops 0) C (string_reference files []) _ next slots ops rest
    built_in_kept p C files (ObjectAnswers called) next event slots ops rest = tells_kept p (object_of C ops 0) C files _ next slots rest
