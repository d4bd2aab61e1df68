-- What each event keeps of classes and threads.
use Rattle.std.proofs.Common.{◌≡◌, ℕ, zero, suc, List, [], ◌∷◌, ◌++◌, length, nat_lt, Bool, true, false, ◌==◌, Option, Some, None, refl, sym, ap, subst, ◌∙◌, arith}
use Rattle.std.specs.Prelude.{slice_get, slice_set, slice_index_or, replicate, ◌-◌, not, ◌&&◌, ◌||◌, if◌then◌else◌}
use Rattle.std.proofs.lemmas.Bool.{cond_both, eqb-true}
use Rattle.std.proofs.lemmas.List.{length-set}
use Rattle.std.specs.Option.{option_map_or, option_and_then}
use Rattle.model.specs.declared.event.Event.{Event}
use Rattle.model.specs.declared.class_file.ExceptionEntry.{ExceptionEntry}
use Rattle.model.specs.Names.{Name, Member, main_of, thread_run, initialiser_of, java_lang_error}
use Rattle.model.specs.Tree.{Entry, FieldTree, FileTree}
use Rattle.model.specs.Classes.{Program, Body, body_of, class_of, is_built_in}
use Rattle.model.specs.ReferenceTypes.{ReferenceType, ClassType}
use Rattle.model.specs.Types.{is_object_of}
use Rattle.model.specs.Operands.{Carrier, words, values, under}
use Rattle.model.specs.Lookup.{select, field_member}
use Rattle.model.specs.Opening.{arguments_reference, class_reference}
use Rattle.model.specs.State.{Monitor, Waiter, types_of, ClassStatus, NotInitialised, InProgress, Initialised, Erroneous, WakeCause, Notified, Interrupted, ThreadStatus, Running, Waiting, Relock, Ended, Thread, FrameOf, Phase, Super, End, Invocation, Initialisation, StackOf, WorldOf, StateOf}
use Rattle.model.specs.Outcomes.{Cost, Free, Makes, MachineException, OutcomeOf, Goes, Raises, Throws, Interrupts, Calls, Returns, Waits, NoClassDefFound, StackOverflow, IllegalMonitorState, InterruptedWait, AbstractMethod, ExceptionInInitializer}
use Rattle.model.specs.Monitors as monitors
use Rattle.model.specs.Worlds.{no_thread, thread_at, with_thread, with_begun, with_pending, with_caught, with_status, with_static, put_value, allocated, object_at, class_of_object, has_ended, is_owner, may_enter, with_entry, entry_cost, with_exit, with_monitors, with_interrupted, is_done, woken, all_woken, waiters_of}
use Rattle.model.specs.MachineExceptions.{machine_exception}
use Rattle.model.specs.ClassInitialisation.{status_in, status_of, with_class_status, with_class_begun, constant_value, with_constant, with_constants, Look, IsReady, IsNew, IsHeld, HasFailed, look_by}
use Rattle.model.specs.Frames.{frame_with, entered_by, frame_count, at_call}
use Rattle.model.specs.Sites.{MeaningOf, Site, site_at}
use Rattle.model.specs.Meanings.{meaning_of}
use Rattle.model.specs.Step.{SteppedOf, NotEnabled, WrongKind, Next, PartOf, part, on_to, enabled_if, unpicked, is_over, ended, with_end, end_of, settled, raised_for, raised, needing, needing_class, entering, pushed, leaving, returned, become, ops_of, done, bytecode_by, bytecode_in, initialiser_event, before, initialisation_event, initial_class, main_frame, run_frame, run_of, begin_event, handler_in, unwound, failed, pending_event, after_wait, relock_event, running_event, going_event, thread_event, with_part, event_of}
use Rattle.data_races.specs.EventActions.{is_finished, is_waiting}
use Rattle.run_laws.proofs.laws.Operations.{OfMeaning}
use Rattle.event_laws.specs.event_changes.Changes.{class_on, class_names, KeepsClasses, AddsThread, is_in_set, WakesWaiters, OfEvents, AreClassesKept, AreThreadsAdded, DoEndsWake}
use Rattle.event_laws.proofs.event_changes.Lists.{waits_but_one}
use Rattle.event_laws.proofs.event_changes.Changed.{Quiet, Steady, Kept, keeps_same, quiet_then, quiet_self, steady_thread, steady_call, steady_allocated, kept_left, kept_then, kept_self, kept_steady, kept_class, kept_begun}
use Rattle.event_laws.proofs.event_changes.Worlds.{OutcomeLeaves, all_woken_keeps}
use Rattle.event_laws.proofs.event_changes.Table.{Leaving, meaning_leaves}

-- ---- monitors keep their wait sets

entrant_waiters : (t : ℕ) (owner : Option ℕ) (m : Monitor) (free again : monitors.Answered Monitor) → free.after.waiters ≡ m.waiters → again.after.waiters ≡ m.waiters
    → (monitors.as_entrant t owner m free again).after.waiters ≡ m.waiters
entrant_waiters t None m free again f a = f
entrant_waiters t (Some owner) m free again f a = cond_both (owner == t) _ _ (λ (x : monitors.Answered Monitor). x.after.waiters ≡ m.waiters) (λ e. a) (λ e. refl)

enter_waiters : (t : ℕ) (m : Monitor) → (monitors.monitor_enter t m).after.waiters ≡ m.waiters
enter_waiters t m = entrant_waiters t m.owner m _ _ refl refl

released_waiters : (m : Monitor) (count : ℕ) → (monitors.released m count).waiters ≡ m.waiters
released_waiters m count = cond_both (count == 0) _ _ (λ (x : Monitor). x.waiters ≡ m.waiters) (λ e. refl) (λ e. refl)

exit_waiters : (t : ℕ) (m : Monitor) → (monitors.monitor_exit t m).after.waiters ≡ m.waiters
exit_waiters t m =
    cond_both (monitors.owns t m.owner) _ _ (λ (x : monitors.Answered Monitor). x.after.waiters ≡ m.waiters) (λ e. released_waiters m (m.count - 1)) (λ e. refl)

relock_by : (t count : ℕ) (owner : Option ℕ) (m : Monitor) → (monitors.relock_from owner m (monitors.answers_done (monitors.owned m t count))).after.waiters ≡ m.waiters
relock_by t count None m = refl
relock_by t count (Some owner) m = refl

relock_waiters : (t count : ℕ) (m : Monitor) → (monitors.monitor_relock t count m).after.waiters ≡ m.waiters
relock_waiters t count m = relock_by t count m.owner m

module _ {A : Type 0} where
  -- where the stack is empty, the thread may end next
  abbrev pub QuietOn : ℕ → WorldOf A → WorldOf A → StackOf A → Type 0
  QuietOn t old new [] = Quiet t old new
  QuietOn t old new (entry ∷ stack) = Unit {0}

  quiet_on : (t : ℕ) (old new : WorldOf A) (stack : StackOf A) → Quiet t old new → QuietOn t old new stack
  quiet_on t old new [] h = h
  quiet_on t old new (entry ∷ stack) h = tt

  -- what an event of a thread leaves, by the class on top of its stack before it
  abbrev pub Stays : ℕ → Option Name → WorldOf A → SteppedOf (PartOf A) → Type 0
  Stays t class base NotEnabled = Unit {0}
  Stays t class base WrongKind = Unit {0}
  Stays t class base (Next cost p) = Kept t class base p.world × QuietOn t base p.world p.stack

  module _ (t : ℕ) (class : Option Name) (base : WorldOf A) where
    abbrev stays : SteppedOf (PartOf A) → Type 0
    stays x = Stays t class base x

    enabled_stays : (test : Bool) (x : SteppedOf (PartOf A)) → stays x → stays (enabled_if test x)
    enabled_stays true x h = h
    enabled_stays false x h = tt

    either_stays : (test : Bool) (x y : SteppedOf (PartOf A)) → stays x → stays y → stays (if test then x else y)
    either_stays true x y h g = h
    either_stays false x y h g = g

    -- a world that is reached so far, and one more change
    pub record Reached (world : WorldOf A) : Type 0 where
      pub kept : Kept t class base world
      pub quiet : Quiet t base world

    reached_then : (world after : WorldOf A) → Reached world → Steady t world after → Reached after
    reached_then world after h g =
        record { kept = kept_then t class base world after h.kept g; quiet = quiet_then t base world after h.quiet g.quiet }

    reached_stays : (cost : Cost) (world : WorldOf A) (stack : StackOf A) → Reached world → stays (Next cost (part world stack))
    reached_stays cost world stack h = (h.kept, quiet_on t base world stack h.quiet)

    -- ---- exceptions, calls and returns

    pending_steady : (world : WorldOf A) (exception : ℕ) → Steady t world (with_pending world t exception)
    pending_steady world exception = steady_thread t world (record (thread_at world t) { pending = Some exception }) (λ e. e) refl refl

    begun_steady : (world : WorldOf A) → Steady t world (with_begun world t)
    begun_steady world = steady_thread t world (record (thread_at world t) { begun = true }) (λ e. e) refl refl

    caught_steady : (world : WorldOf A) → Steady t world (with_caught world t)
    caught_steady world = steady_thread t world (record (thread_at world t) { pending = None }) (λ e. e) refl refl

    interrupted_steady : (world : WorldOf A) (b : Bool) → Steady t world (with_interrupted world t b)
    interrupted_steady world b = steady_thread t world (record (thread_at world t) { interrupted = b }) (λ e. e) refl refl

    raised_for_stays : (C : Carrier A) (files : Program) (fault : MachineException) (cause : Option ℕ) (world : WorldOf A) (stack : StackOf A)
        → Reached world → stays (raised_for C files t fault cause world stack)
    raised_for_stays C files fault cause world stack h =
        let o = machine_exception C files fault cause in
        let made = allocated world o in
        let after = with_pending made t (length world.heap) in
        reached_stays (Makes 0) after stack (reached_then made after (reached_then world made h (steady_allocated t world o)) (pending_steady made (length world.heap)))

    raised_stays : (C : Carrier A) (files : Program) (fault : MachineException) (world : WorldOf A) (stack : StackOf A) → Reached world
        → stays (raised C files t fault world stack)
    raised_stays C files fault world stack h = raised_for_stays C files fault None world stack h

    entry_steady : (world : WorldOf A) (object : ℕ) → Steady t world (with_entry world t object)
    entry_steady world object = steady_call t world object (monitors.monitor_enter t) (enter_waiters t)

    exit_steady : (world : WorldOf A) (object : ℕ) → Steady t world (with_exit world t object)
    exit_steady world object = steady_call t world object (monitors.monitor_exit t) (exit_waiters t)

    entering_stays : (world : WorldOf A) (rest : StackOf A) (frame : FrameOf A) (o : Option ℕ) → Reached world → stays (entering t world rest frame o)
    entering_stays world rest frame None h = reached_stays Free world (Invocation frame ∷ rest) h
    entering_stays world rest frame (Some object) h =
        enabled_stays (may_enter world t object) (Next (entry_cost world object) (part (with_entry world t object) (Invocation frame ∷ rest)))
        (reached_stays (entry_cost world object) (with_entry world t object) (Invocation frame ∷ rest) (reached_then world (with_entry world t object) h (entry_steady world object)))

    pushed_stays : (C : Carrier A) (files : Program) (frames : ℕ) (world after : WorldOf A) (stack rest : StackOf A) (frame : FrameOf A) → Reached world → Reached after
        → stays (pushed C files frames t world after stack rest frame)
    pushed_stays C files frames world after stack rest frame h g =
        either_stays (nat_lt (frame_count stack) frames) (entering t after rest frame frame.entered) (raised C files t StackOverflow world stack)
        (entering_stays after rest frame frame.entered g) (raised_stays C files StackOverflow world stack h)

    leaving_stays : (C : Carrier A) (files : Program) (o : Option ℕ) (world : WorldOf A) (rest stack : StackOf A) → Reached world → stays (leaving C files t o world rest stack)
    leaving_stays C files None world rest stack h = reached_stays Free world rest h
    leaving_stays C files (Some object) world rest stack h =
        either_stays (is_owner world t object) (on_to (with_exit world t object) rest) (raised C files t IllegalMonitorState world stack)
        (reached_stays Free (with_exit world t object) rest (reached_then world (with_exit world t object) h (exit_steady world object)))
        (raised_stays C files IllegalMonitorState world stack h)

  -- ---- classes

  module _ (C : Carrier A) (files : Program) (t : ℕ) where
    -- constants are static fields
    pub record OnlyStatics (old new : WorldOf A) : Type 0 where
      pub classes : new.classes ≡ old.classes
      pub threads : new.threads ≡ old.threads
      pub monitors : new.monitors ≡ old.monitors

    statics_then : (one two three : WorldOf A) → OnlyStatics one two → OnlyStatics two three → OnlyStatics one three
    statics_then one two three h g =
        record { classes = g.classes ∙ h.classes; threads = g.threads ∙ h.threads; monitors = g.monitors ∙ h.monitors }

    constant_only : (class : Name) (pool : List Entry) (world : WorldOf A) (field : FieldTree) (o : Option A)
        → OnlyStatics world (option_map_or (λ value. with_static world (field_member class pool field) (put_value C (field_member class pool field) value)) o world)
    constant_only class pool world field None = record { classes = refl; threads = refl; monitors = refl }
    constant_only class pool world field (Some value) = record { classes = refl; threads = refl; monitors = refl }

    constants_only : (class : Name) (pool : List Entry) (world : WorldOf A) (fields : List FieldTree)
        → OnlyStatics world (with_constants C files class pool world fields)
    constants_only class pool world [] = record { classes = refl; threads = refl; monitors = refl }
    constants_only class pool world (field ∷ fields) =
        statics_then world (with_constant C files class pool world field) (with_constants C files class pool (with_constant C files class pool world field) fields)
        (constant_only class pool world field (constant_value C files pool field)) (constants_only class pool (with_constant C files class pool world field) fields)

    class_only : (class : Name) (world : WorldOf A) (o : Option FileTree)
        → OnlyStatics (with_class_status world class (InProgress t)) (option_map_or (λ (file : FileTree). with_constants C files class file.pool (with_class_status world class (InProgress t)) file.fields)
        o (with_class_status world class (InProgress t)))
    class_only class world None = record { classes = refl; threads = refl; monitors = refl }
    class_only class world (Some file) = constants_only class file.pool (with_class_status world class (InProgress t)) file.fields

    statics_steady : (old new : WorldOf A) → OnlyStatics old new → Steady t old new
    statics_steady old new h =
        let k = keeps_same old new h.classes h.threads in
        record {
          classes = h.classes;
          count = k.count;
          ends = k.ends t;
          quiet = record {
            object = ap (λ (ts : List Thread). (slice_index_or ts t no_thread).object) h.threads;
            waiting = λ u. ap (λ (ts : List Thread). is_waiting (slice_index_or ts u no_thread).status) h.threads;
            waiters = λ o. ap (λ (ms : List Monitor). (monitors.monitor_at ms o).waiters) h.monitors;
          };
        }

    new_unfinished : (status : ClassStatus) → look_by t status ≡ IsNew → is_finished status ≡ false
    new_unfinished NotInitialised e = refl
    new_unfinished (InProgress by) e = refl
    new_unfinished Initialised e = absurd cc
    new_unfinished Erroneous e = absurd cc

    module _ (on : Option Name) (base : WorldOf A) where
      begun_stays : (class : Name) (stack : StackOf A) → is_finished (status_of base class) ≡ false
          → Stays t on base (on_to (with_class_begun C files t class base) (Initialisation class Super ∷ stack))
      begun_stays class stack h =
          let marked = with_class_status base class (InProgress t) in (
            kept_then t on base marked (with_class_begun C files t class base) (kept_begun t on class base h)
                (statics_steady marked (with_class_begun C files t class base) (class_only class base (class_of files class))),
            tt,
          )

      here : Reached t on base base
      here = record { kept = kept_self t on base; quiet = quiet_self t base }

      needing_stays : (class : Name) (look : Look) (stack : StackOf A) (x : SteppedOf (PartOf A)) → look_by t (status_of base class) ≡ look → Stays t on base x
          → Stays t on base (needing C files t class look base stack x)
      needing_stays class IsReady stack x e k = k
      needing_stays class IsNew stack x e k = begun_stays class stack (new_unfinished (status_of base class) e)
      needing_stays class IsHeld stack x e k = tt
      needing_stays class HasFailed stack x e k = raised_stays t on base C files NoClassDefFound base stack here

      needing_class_stays : (class : Option Name) (stack : StackOf A) (x : SteppedOf (PartOf A)) → Stays t on base x
          → Stays t on base (needing_class C files t class base stack x)
      needing_class_stays None stack x k = k
      needing_class_stays (Some class) stack x k = needing_stays class (look_by t (status_of base class)) stack x refl k

  -- ---- an instruction

  module _ (C : Carrier A) (files : Program) (frames : ℕ) (event : Event) (world : WorldOf A) where
    abbrev t : ℕ
    t = event.thread

    abbrev keeps : Option Name → SteppedOf (PartOf A) → Type 0
    keeps on x = Stays t on world x

    at_first : (on : Option Name) → Reached t on world world
    at_first on = record { kept = kept_self t on world; quiet = quiet_self t world }

    become_stays : (frame : FrameOf A) (stack : StackOf A) (o : OutcomeOf A) → OutcomeLeaves world o → keeps None (become C files frames t world frame stack o)
    become_stays frame stack (Goes cost after slots to) k = (kept_left t None world after k, tt)
    become_stays frame stack (Raises fault) k = raised_stays t None world C files fault world (Invocation frame ∷ stack) (at_first None)
    become_stays frame stack (Throws exception) k = (kept_steady t None world (with_pending world t exception) (pending_steady t None world world exception), tt)
    become_stays frame stack Interrupts k =
        raised_stays t None world C files InterruptedWait (with_interrupted world t false) (Invocation frame ∷ stack)
        (reached_then t None world world (with_interrupted world t false) (at_first None) (interrupted_steady t None world world false))
    become_stays frame stack (Calls callee rest) k =
        pushed_stays t None world C files frames world world (Invocation frame ∷ stack) (Invocation (at_call frame rest) ∷ stack) callee (at_first None) (at_first None)
    become_stays frame stack (Returns after results) k =
        leaving_stays t None world C files frame.entered after (returned files results stack) (Invocation frame ∷ stack)
        (subst (λ (w : WorldOf A). Reached t None world w) (sym k) (at_first None))
    become_stays frame stack (Waits cost after rest) k = (kept_left t None world after k, tt)

    module _ (frame : FrameOf A) (stack : StackOf A) (max_stack : ℕ) where
      meaning_stays : (o : Option (MeaningOf A)) → OfMeaning (Leaving C) o → keeps None (bytecode_by C files frames event world frame stack max_stack o)
      meaning_stays None k = enabled_stays t None world (event.pick == 0) WrongKind tt
      meaning_stays (Some m) k =
          let slots = frame.place.slots in
          either_stays t None world (C.finds files (types_of world.heap) m.wants max_stack slots) _ (unpicked event WrongKind)
          (enabled_stays t None world (m.may event world (ops_of C m slots)) _
          (needing_class_stays C files t None world m.looks (Invocation frame ∷ stack) (done C files frames event world frame stack m)
          (become_stays frame stack (m.does event world slots (ops_of C m slots) (under m.wants slots)) (k event world slots (ops_of C m slots) (under m.wants slots)))))
          (enabled_stays t None world (event.pick == 0) WrongKind tt)

      site_stays : (o : Option Site) → keeps None (bytecode_by C files frames event world frame stack max_stack (option_and_then (meaning_of C files) o))
      site_stays None = enabled_stays t None world (event.pick == 0) WrongKind tt
      site_stays (Some site) = meaning_stays (meaning_of C files site) (meaning_leaves C files site)

    bytecode_stays : (frame : FrameOf A) (stack : StackOf A) (o : Option Body) → keeps None (bytecode_in C files frames event world frame stack o)
    bytecode_stays frame stack None = enabled_stays t None world (event.pick == 0) WrongKind tt
    bytecode_stays frame stack (Some body) = site_stays frame stack body.code.max_stack (site_at frame.method body frame.place.offset)

  module _ (C : Carrier A) (files : Program) (frames t : ℕ) (world : WorldOf A) where
    at_start : (on : Option Name) → Reached t on world world
    at_start on = record { kept = kept_self t on world; quiet = quiet_self t world }

    -- ---- classes that are initialised

    initialiser_stays : (on : Option Name) (m : Member) (stack : StackOf A) (o : Option Body) → Stays t on world (initialiser_event C files frames t m world stack o)
    initialiser_stays on m stack None = reached_stays t on world Free world stack (at_start on)
    initialiser_stays on m stack (Some body) =
        pushed_stays t on world C files frames world world stack stack (frame_with C m [] None body) (at_start on) (at_start on)

    -- the class on top has a status since
    marked : (class : Name) (status : ClassStatus) → Reached t (Some class) world (with_class_status world class status)
    marked class status =
        record { kept = kept_class t class status world; quiet = record { object = refl; waiting = λ u. refl; waiters = λ o. refl } }

    initialisation_stays : (class : Name) (phase : Phase) (stack : StackOf A) → Stays t (Some class) world (initialisation_event C files frames t class phase world stack)
    initialisation_stays class Super stack =
        needing_class_stays C files t (Some class) world (before files class) (Initialisation class Super ∷ stack) _
        (initialiser_stays (Some class) (initialiser_of class) (Initialisation class End ∷ stack) (body_of files (initialiser_of class)))
    initialisation_stays class End stack = reached_stays t (Some class) world Free (with_class_status world class Initialised) stack (marked class Initialised)

    -- ---- threads that begin

    has_begun : Reached t None world (with_begun world t)
    has_begun = reached_then t None world world (with_begun world t) (at_start None) (begun_steady t None world world)

    run_frame_stays : (object : ℕ) (m : Member) (o : Option Body) → Stays t None world (run_frame C files frames t world object m o)
    run_frame_stays object m None = raised_stays t None world C files AbstractMethod world [] (at_start None)
    run_frame_stays object m (Some body) =
        pushed_stays t None world C files frames world (with_begun world t) [] []
        (frame_with C m (C.reference object ∷ []) (entered_by files m object) body) (at_start None) has_begun

    run_stays : (object : ℕ) (o : Option Member) → Stays t None world (run_of C files frames t world object o)
    run_stays object None = raised_stays t None world C files AbstractMethod world [] (at_start None)
    run_stays object (Some m) = run_frame_stays object m (body_of files m)

    -- ---- pending exceptions, and threads that were woken

    unwound_stays : (exception : ℕ) (frame : FrameOf A) (stack : StackOf A) (o : Option ExceptionEntry) → Stays t None world (unwound C files t exception world frame stack o)
    unwound_stays exception frame stack None = leaving_stays t None world C files frame.entered world stack stack (at_start None)
    unwound_stays exception frame stack (Some entry) = (kept_steady t None world (with_caught world t) (caught_steady t None world world), tt)

    failed_stays : (exception : ℕ) (b : Bool) (class : Name) (stack : StackOf A) → Stays t (Some class) world (failed C files t exception b (with_class_status world class Erroneous) stack)
    failed_stays exception true class stack = reached_stays t (Some class) world Free (with_class_status world class Erroneous) stack (marked class Erroneous)
    failed_stays exception false class stack =
        raised_for_stays t (Some class) world C files ExceptionInInitializer (Some exception) (with_class_status world class Erroneous) stack (marked class Erroneous)

    pending_stays : (exception : ℕ) (thrown : Option ReferenceType) (stack : StackOf A) → Stays t (class_on stack) world (pending_event C files t exception thrown world stack)
    pending_stays exception thrown [] = tt
    pending_stays exception thrown (Invocation frame ∷ stack) =
        unwound_stays exception frame stack (option_and_then (handler_in files frame.place.offset thrown) (body_of files frame.method))
    pending_stays exception thrown (Initialisation class phase ∷ stack) =
        failed_stays exception (is_object_of files (ClassType java_lang_error) thrown) class stack

    after_wait_stays : (on : Option Name) (cause : WakeCause) (after : WorldOf A) (stack : StackOf A) → Reached t on world after
        → Stays t on world (after_wait C files t cause after stack)
    after_wait_stays on Notified after stack h = reached_stays t on world Free after (returned files [] stack) h
    after_wait_stays on Interrupted after stack h =
        raised_stays t on world C files InterruptedWait (with_interrupted after t false) stack
        (reached_then t on world after (with_interrupted after t false) h (interrupted_steady t on world after false))

    relocked : (on : Option Name) (object count : ℕ) (cause : WakeCause) → (thread_at world t).status ≡ Relock object count cause
        → Reached t on world (with_status (with_monitors world (monitors.relock object t count world.monitors)) t Running)
    relocked on object count cause e =
        let locked = with_monitors world (monitors.relock object t count world.monitors) in
        reached_then t on world locked (with_status locked t Running)
        (reached_then t on world world locked (at_start on) (steady_call t world object (monitors.monitor_relock t count) (relock_waiters t count)))
        (steady_thread t locked (record (thread_at world t) { status = Running }) (λ h. let f : false ≡ true = h in absurd cc) (sym (ap is_waiting e)) refl)

  begin_stays : (C : Carrier A) (files : Program) (frames : ℕ) (world : WorldOf A) (t : ℕ) → Stays t None world (begin_event C files frames world t)
  begin_stays C files frames world zero =
      let main = main_of (initial_class files) in
      needing_class_stays C files 0 None world (Some (initial_class files)) [] (main_frame C files frames world main (body_of files main))
      (main_stays main (body_of files main))
    where
      main_stays : (main : Member) (o : Option Body) → Stays 0 None world (main_frame C files frames world main o)
      main_stays main None = tt
      main_stays main (Some body) =
          pushed_stays 0 None world C files frames world (with_begun world 0) [] []
          (frame_with C main (C.reference arguments_reference ∷ []) (entered_by files main (class_reference files main.class)) body)
          (at_start C files frames 0 world None) (has_begun C files frames 0 world)
  begin_stays C files frames world (suc t) =
      run_stays C files frames (suc t) world (thread_at world (suc t)).object
      (select files (class_of_object (object_at world (thread_at world (suc t)).object)) thread_run)

  -- ---- an event

  module _ (C : Carrier A) (files : Program) (frames : ℕ) (event : Event) (world : WorldOf A) where
    abbrev n : ℕ
    n = event.thread

    running_stays : (stack : StackOf A) → Stays n (class_on stack) world (running_event C files frames event world stack)
    running_stays [] = enabled_stays n None world (event.pick == 0) (begin_event C files frames world n) (begin_stays C files frames world n)
    running_stays (Invocation frame ∷ stack) = bytecode_stays C files frames event world frame stack (body_of files frame.method)
    running_stays (Initialisation class phase ∷ stack) =
        enabled_stays n (Some class) world (event.pick == 0) (initialisation_event C files frames n class phase world stack)
        (initialisation_stays C files frames n world class phase stack)

    going_stays : (stack : StackOf A) (pending : Option ℕ) → Stays n (class_on stack) world (going_event C files frames event world stack pending)
    going_stays stack None = running_stays stack
    going_stays stack (Some exception) =
        let thrown = slice_get (types_of world.heap) exception in
        enabled_stays n (class_on stack) world (event.pick == 0) (pending_event C files n exception thrown world stack)
        (pending_stays C files frames n world exception thrown stack)

    event_stays : (stack : StackOf A) (status : ThreadStatus) → (thread_at world n).status ≡ status
        → Stays n (class_on stack) world (thread_event C files frames event world stack status)
    event_stays stack Running e = going_stays stack (thread_at world n).pending
    event_stays stack (Waiting object count) e = tt
    event_stays stack (Relock object count cause) e =
        let on = class_on stack in
        let after = with_status (with_monitors world (monitors.relock object n count world.monitors)) n Running in
        enabled_stays n on world (event.pick == 0) (relock_event C files n object count cause world stack)
        (enabled_stays n on world (is_done (monitors.relock object n count world.monitors).answer) (after_wait C files n cause after stack)
        (after_wait_stays C files frames n world on cause after stack (relocked C files frames n world on object count cause e)))
    event_stays stack (Ended exception) e = tt

    -- a thread that has an event neither waits nor has ended
    active : (stack : StackOf A) (status : ThreadStatus) (cost : Cost) (p : PartOf A) → thread_event C files frames event world stack status ≡ Next cost p
        → (has_ended status ≡ false) × (is_waiting status ≡ false)
    active stack Running cost p e = (refl, refl)
    active stack (Waiting object count) cost p e = absurd cc
    active stack (Relock object count cause) cost p e = (refl, refl)
    active stack (Ended exception) cost p e = absurd cc

  -- ---- the end of a thread

  -- members of a wait set wait no more
  all_woken_wait : (object u : ℕ) (cause : WakeCause) (ws : List Waiter) (world : WorldOf A)
      → is_waiting (thread_at (all_woken object cause world ws) u).status ≡ (is_waiting (thread_at world u).status && not (is_in_set u ws))
  all_woken_wait object u cause [] world = and_none (is_waiting (thread_at world u).status)
    where
      and_none : (b : Bool) → b ≡ (b && not false)
      and_none true = refl
      and_none false = refl
  all_woken_wait object u cause (w ∷ ws) world =
      let after = woken object cause world w in
      all_woken_wait object u cause ws after
      ∙ ap (λ b. b && not (is_in_set u ws)) (waits_but_one world.threads w.thread u (record (thread_at world w.thread) { status = Relock object w.count cause }) refl)
      ∙ both_out (is_waiting (thread_at world u).status) (w.thread == u) (is_in_set u ws)
    where
      both_out : (a b c : Bool) → ((a && not b) && not c) ≡ (a && not (b || c))
      both_out true true c = refl
      both_out true false c = refl
      both_out false b c = refl

  -- what an event leaves, its thread's end included
  pub record Whole (t : ℕ) (class : Option Name) (old new : WorldOf A) : Type 0 where
    pub classes : KeepsClasses class old new
    pub adds : AddsThread old new
    pub wakes : WakesWaiters t old new

  module _ (t : ℕ) (class : Option Name) (old : WorldOf A) (alive : has_ended (thread_at old t).status ≡ false) (up : is_waiting (thread_at old t).status ≡ false) where
    never : (X : Type 0) → has_ended (thread_at old t).status ≡ true → X
    never X e = let f : true ≡ false = sym e ∙ alive in absurd cc

    not_ended : (new : WorldOf A) → Kept t class old new → Whole t class old new
    not_ended new h =
        record {
          classes = record { names = h.names; others = h.others };
          adds = record { kept = h.kept; one = h.one };
          wakes = λ e u. never _ (h.ends e);
        }

    it_waits_not : (u : ℕ) (b : Bool) → b ≡ (t == u) → (is_waiting (thread_at old u).status && not (t == u)) ≡ is_waiting (thread_at old u).status
    it_waits_not u true e =
        let same : t ≡ u = eqb-true t u (sym e) in
        let off : is_waiting (thread_at old u).status ≡ false = subst (λ (k : ℕ). is_waiting (thread_at old k).status ≡ false) same up in
        ap (λ b. b && not (t == u)) off ∙ sym off
    it_waits_not u false e = ap (λ b. is_waiting (thread_at old u).status && not b) (sym e) ∙ sym (and_none (is_waiting (thread_at old u).status))
      where
        and_none : (b : Bool) → b ≡ (b && not false)
        and_none true = refl
        and_none false = refl

    has_ended_now : (new : WorldOf A) → Kept t class old new → Quiet t old new → Whole t class old (with_end new t true)
    has_ended_now new h q =
        let over = with_thread new t (ended (thread_at new t)) in
        let object = (thread_at new t).object in
        let left = with_monitors over (monitors.wake_all object new.monitors) in
        let k = all_woken_keeps object Notified (waiters_of over object) left in
        let c = k.count ∙ length-set new.threads t (ended (thread_at new t)) in
        let low = h.kept in
        let high = h.one in
        let sets : waiters_of new object ≡ waiters_of old (thread_at old t).object = q.waiters object ∙ ap (λ (o : ℕ). waiters_of old o) q.object in
        record {
          classes = record {
            names = ap class_names k.classes ∙ h.names;
            others = λ other e. ap (λ (cs : List (Name × ClassStatus)). is_finished (if is_built_in other then Initialised else status_in other cs)) k.classes ∙ h.others other e;
          };
          adds = record { kept = omega arith; one = omega arith };
          wakes = λ e u.
              all_woken_wait object u Notified (waiters_of over object) left
              ∙ ap (λ b. b && not (is_in_set u (waiters_of new object))) (waits_but_one new.threads t u (ended (thread_at new t)) refl ∙ ap (λ b. b && not (t == u)) (q.waiting u) ∙ it_waits_not u (t == u) refl)
              ∙ ap (λ (ws : List Waiter). is_waiting (thread_at old u).status && not (is_in_set u ws)) sets;
        }

    by_end : (b : Bool) (new : WorldOf A) → Kept t class old new → Quiet t old new → Whole t class old (with_end new t b)
    by_end true new h q = has_ended_now new h q
    by_end false new h q = not_ended new h

    by_stack : (new : WorldOf A) (stack : StackOf A) → Kept t class old new → QuietOn t old new stack → Whole t class old (end_of t new stack)
    by_stack new [] h q = by_end (is_over (thread_at new t)) new h q
    by_stack new (entry ∷ stack) h q = not_ended new h

  -- ---- states

  module _ (state : StateOf A) (t : ℕ) (class : Option Name) (cost : Cost) (next : StateOf A) where
    put_whole : (x : SteppedOf (PartOf A)) → Stays t class state.world x
        → ((c : Cost) (p : PartOf A) → x ≡ Next c p → (has_ended (thread_at state.world t).status ≡ false) × (is_waiting (thread_at state.world t).status ≡ false))
        → with_part state t (settled t x) ≡ Next cost next → Whole t class state.world next.world
    put_whole NotEnabled h is e = absurd cc
    put_whole WrongKind h is e = absurd cc
    put_whole (Next c p) h is e =
        let after = end_of t p.world p.stack in
        let whole : StateOf A = record { world = after; stacks = slice_set state.stacks t p.stack ++ replicate (length after.threads - length state.stacks) [] } in
        let same : whole ≡ next = cc in
        let alive = is c p refl in
        subst (λ (n : StateOf A). Whole t class state.world n.world) same (by_stack t class state.world alive.0 alive.1 p.world p.stack h.0 h.1)

  pub whole : (C : Carrier A) → OfEvents C (λ event own old new. Whole event.thread (class_on own) old new)
  whole C files frames state event cost next own e at_own =
      let status = (thread_at state.world event.thread).status in
      let x = thread_event C files frames event state.world own status in
      let stepped_so : with_part state event.thread (settled event.thread x) ≡ Next cost next = ap (event_of C files frames state event) (sym at_own) ∙ e in
      put_whole state event.thread (class_on own) cost next x (event_stays C files frames event state.world own status refl)
      (λ c p q. active C files frames event state.world own status c p q) stepped_so

pub classes_kept : AreClassesKept
classes_kept =
    record {
      of_values = λ files frames state event cost next own e at. (whole values files frames state event cost next own e at).classes;
      of_words = λ files frames state event cost next own e at. (whole words files frames state event cost next own e at).classes;
    }

pub threads_added : AreThreadsAdded
threads_added =
    record {
      of_values = λ files frames state event cost next own e at. (whole values files frames state event cost next own e at).adds;
      of_words = λ files frames state event cost next own e at. (whole words files frames state event cost next own e at).adds;
    }

pub ends_wake : DoEndsWake
ends_wake =
    record {
      of_values = λ files frames state event cost next own e at. (whole values files frames state event cost next own e at).wakes;
      of_words = λ files frames state event cost next own e at. (whole words files frames state event cost next own e at).wakes;
    }
