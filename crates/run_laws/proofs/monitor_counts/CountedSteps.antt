-- What each event keeps of counts.
use Rattle.std.proofs.Common.{ℕ, zero, suc, List, [], ◌∷◌, nat_lt, Bool, true, false, ◌==◌, Option, Some, None, refl, subst}
use Rattle.std.specs.Prelude.{slice_get, if◌then◌else◌}
use Rattle.std.specs.Option.{option_map_or, option_and_then}
use Rattle.model.specs.declared.event.Event.{Event}
use Rattle.model.specs.declared.class_file.ExceptionEntry.{ExceptionEntry}
use Rattle.model.specs.Names.{Name, Member, main_of, thread_run, initialiser_of, java_lang_error}
use Rattle.model.specs.Tree.{Entry, FieldTree, FileTree}
use Rattle.model.specs.Classes.{Program, Body, body_of, class_of}
use Rattle.model.specs.ReferenceTypes.{ReferenceType, ClassType}
use Rattle.model.specs.Types.{is_object_of}
use Rattle.model.specs.Operands.{Carrier, words, values, under}
use Rattle.model.specs.Lookup.{select, field_member}
use Rattle.model.specs.Opening.{arguments_reference, class_reference}
use Rattle.model.specs.State.{types_of, InProgress, Erroneous, WakeCause, Notified, Interrupted, ThreadStatus, Running, Waiting, Relock, Ended, FrameOf, Phase, Super, End, Invocation, Initialisation, StackOf, WorldOf, StateOf}
use Rattle.model.specs.Outcomes.{MachineException, OutcomeOf, Goes, Raises, Throws, Interrupts, Calls, Returns, Waits, NoClassDefFound, StackOverflow, IllegalMonitorState, InterruptedWait, AbstractMethod, ExceptionInInitializer}
use Rattle.model.specs.MachineExceptions.{machine_exception}
use Rattle.model.specs.Monitors as monitors
use Rattle.model.specs.Worlds.{thread_at, with_thread, with_begun, with_pending, with_caught, with_status, with_interrupted, with_static, put_value, allocated, object_at, class_of_object, is_owner, may_enter, with_entry, entry_cost, with_exit, with_monitors, is_done}
use Rattle.model.specs.ClassInitialisation.{status_of, with_class_status, constant_value, with_constant, with_constants, Look, IsReady, IsNew, IsHeld, HasFailed, look_by}
use Rattle.model.specs.Frames.{frame_with, entered_by, frame_count, at_call}
use Rattle.model.specs.Sites.{MeaningOf, Site, site_at}
use Rattle.model.specs.Meanings.{meaning_of}
use Rattle.model.specs.Step.{SteppedOf, NotEnabled, WrongKind, Next, PartOf, part, on_to, enabled_if, unpicked, is_over, ended, with_end, end_of, settled, raised, needing, needing_class, entering, pushed, leaving, returned, become, ops_of, done, bytecode_by, bytecode_in, initialiser_event, before, initialisation_event, initial_class, main_frame, run_frame, run_of, begin_event, handler_in, unwound, failed, pending_event, after_wait, relock_event, running_event, going_event, thread_event, with_part, event_of, stepped}
use Rattle.run_laws.proofs.laws.Operations.{OfMeaning}
use Rattle.run_laws.specs.monitor_counts.Counts.{is_fat_after, IsStatusCounted, AreMonitorsCounted, IsCountKept, AreCountsKept}
use Rattle.run_laws.proofs.monitor_counts.Counted.{more_monitors, with_one, with_same}
use Rattle.run_laws.proofs.monitor_counts.CountedWorlds.{OutcomeCounted, entry_counted, exit_keeps, relock_keeps, status_keeps, interrupted_keeps, all_leave}
use Rattle.run_laws.proofs.monitor_counts.CountedTable.{Counts, meaning_counts}

module _ {A : Type 0} where
  -- what an event of a thread leaves, by the locks that are fat before it
  abbrev pub Counted : (ℕ → Bool) → SteppedOf (PartOf A) → Type 0
  Counted fat NotEnabled = Unit {0}
  Counted fat WrongKind = Unit {0}
  Counted fat (Next cost p) = AreMonitorsCounted (is_fat_after cost fat) p.world

  module _ (fat : ℕ → Bool) where
    enabled_counted : (b : Bool) (x : SteppedOf (PartOf A)) → Counted fat x → Counted fat (enabled_if b x)
    enabled_counted true x h = h
    enabled_counted false x h = tt

    either_part : (b : Bool) (x y : SteppedOf (PartOf A)) → Counted fat x → Counted fat y → Counted fat (if b then x else y)
    either_part true x y h g = h
    either_part false x y h g = g

    -- ---- threads

    begun_keeps : (world : WorldOf A) (t : ℕ) → AreMonitorsCounted fat world → AreMonitorsCounted fat (with_begun world t)
    begun_keeps world t h = with_same fat world.monitors world.threads t (record (thread_at world t) { begun = true }) refl h

    pending_keeps : (world : WorldOf A) (t exception : ℕ) → AreMonitorsCounted fat world
        → AreMonitorsCounted fat (with_pending world t exception)
    pending_keeps world t exception h = with_same fat world.monitors world.threads t (record (thread_at world t) { pending = Some exception }) refl h

    caught_keeps : (world : WorldOf A) (t : ℕ) → AreMonitorsCounted fat world → AreMonitorsCounted fat (with_caught world t)
    caught_keeps world t h = with_same fat world.monitors world.threads t (record (thread_at world t) { pending = None }) refl h

    -- ---- exceptions, calls and returns

    raised_counted : (C : Carrier A) (files : Program) (t : ℕ) (fault : MachineException) (world : WorldOf A) (stack : StackOf A) → AreMonitorsCounted fat world
        → Counted fat (raised C files t fault world stack)
    raised_counted C files t fault world stack h =
        pending_keeps (allocated world (machine_exception C files fault None)) t _ (more_monitors fat world.monitors world.threads h)

    entering_counted : (t : ℕ) (world : WorldOf A) (rest : StackOf A) (frame : FrameOf A) (o : Option ℕ) → AreMonitorsCounted fat world
        → Counted fat (entering t world rest frame o)
    entering_counted t world rest frame None h = h
    entering_counted t world rest frame (Some object) h =
        enabled_counted (may_enter world t object) (Next (entry_cost world object) (part (with_entry world t object) (Invocation frame ∷ rest))) (entry_counted fat world h t object)

    pushed_counted : (C : Carrier A) (files : Program) (frames t : ℕ) (world after : WorldOf A) (stack rest : StackOf A) (frame : FrameOf A) → AreMonitorsCounted fat world
        → AreMonitorsCounted fat after → Counted fat (pushed C files frames t world after stack rest frame)
    pushed_counted C files frames t world after stack rest frame h k =
        either_part (nat_lt (frame_count stack) frames) (entering t after rest frame frame.entered) (raised C files t StackOverflow world stack)
        (entering_counted t after rest frame frame.entered k) (raised_counted C files t StackOverflow world stack h)

    leaving_counted : (C : Carrier A) (files : Program) (t : ℕ) (o : Option ℕ) (world : WorldOf A) (rest stack : StackOf A) → AreMonitorsCounted fat world
        → Counted fat (leaving C files t o world rest stack)
    leaving_counted C files t None world rest stack h = h
    leaving_counted C files t (Some object) world rest stack h =
        either_part (is_owner world t object) (on_to (with_exit world t object) rest) (raised C files t IllegalMonitorState world stack)
        (exit_keeps fat world h t object) (raised_counted C files t IllegalMonitorState world stack h)

    -- ---- the end of a thread

    with_end_keeps : (world : WorldOf A) (t : ℕ) (over : Bool) → AreMonitorsCounted fat world
        → AreMonitorsCounted fat (with_end world t over)
    with_end_keeps world t true h =
        all_leave fat (with_thread world t (ended (thread_at world t))) (with_one fat world.monitors world.threads t (ended (thread_at world t)) tt h) (thread_at world t).object
    with_end_keeps world t false h = h

    end_keeps : (t : ℕ) (world : WorldOf A) (stack : StackOf A) → AreMonitorsCounted fat world
        → AreMonitorsCounted fat (end_of t world stack)
    end_keeps t world [] h = with_end_keeps world t (is_over (thread_at world t)) h
    end_keeps t world (entry ∷ stack) h = h

  settled_counted : (fat : ℕ → Bool) (t : ℕ) (x : SteppedOf (PartOf A)) → Counted fat x → Counted fat (settled t x)
  settled_counted fat t NotEnabled h = tt
  settled_counted fat t WrongKind h = tt
  settled_counted fat t (Next cost p) h = end_keeps (is_fat_after cost fat) t p.world p.stack h

  module _ (C : Carrier A) (files : Program) (fat : ℕ → Bool) where
    -- ---- classes

    constant_keeps : (class : Name) (pool : List Entry) (world : WorldOf A) (field : FieldTree) (o : Option A)
        → AreMonitorsCounted fat world
        → AreMonitorsCounted fat (option_map_or
        (λ value. with_static world (field_member class pool field) (put_value C (field_member class pool field) value)) o world)
    constant_keeps class pool world field None h = h
    constant_keeps class pool world field (Some value) h = h

    constants_keep : (class : Name) (pool : List Entry) (world : WorldOf A) (fields : List FieldTree) → AreMonitorsCounted fat world
        → AreMonitorsCounted fat (with_constants C files class pool world fields)
    constants_keep class pool world [] h = h
    constants_keep class pool world (field ∷ fields) h =
        constants_keep class pool (with_constant C files class pool world field) fields (constant_keeps class pool world field (constant_value C files pool field) h)

    class_keeps : (t : ℕ) (class : Name) (world : WorldOf A) (o : Option FileTree) → AreMonitorsCounted fat world
        → AreMonitorsCounted fat (option_map_or
        (λ (file : FileTree). with_constants C files class file.pool (with_class_status world class (InProgress t)) file.fields)
        o (with_class_status world class (InProgress t)))
    class_keeps t class world None h = h
    class_keeps t class world (Some file) h = constants_keep class file.pool (with_class_status world class (InProgress t)) file.fields h

    needing_counted : (t : ℕ) (class : Name) (look : Look) (world : WorldOf A) (stack : StackOf A) (x : SteppedOf (PartOf A))
        → AreMonitorsCounted fat world → Counted fat x → Counted fat (needing C files t class look world stack x)
    needing_counted t class IsReady world stack x h k = k
    needing_counted t class IsNew world stack x h k = class_keeps t class world (class_of files class) h
    needing_counted t class IsHeld world stack x h k = tt
    needing_counted t class HasFailed world stack x h k = raised_counted fat C files t NoClassDefFound world stack h

    needing_class_counted : (t : ℕ) (class : Option Name) (world : WorldOf A) (stack : StackOf A) (x : SteppedOf (PartOf A))
        → AreMonitorsCounted fat world → Counted fat x → Counted fat (needing_class C files t class world stack x)
    needing_class_counted t None world stack x h k = k
    needing_class_counted t (Some class) world stack x h k = needing_counted t class (look_by t (status_of world class)) world stack x h k

    -- ---- an instruction

    become_counted : (frames t : ℕ) (world : WorldOf A) (frame : FrameOf A) (stack : StackOf A) (o : OutcomeOf A)
        → AreMonitorsCounted fat world → OutcomeCounted fat o → Counted fat (become C files frames t world frame stack o)
    become_counted frames t world frame stack (Goes cost after slots to) h k = k
    become_counted frames t world frame stack (Raises fault) h k = raised_counted fat C files t fault world (Invocation frame ∷ stack) h
    become_counted frames t world frame stack (Throws exception) h k = pending_keeps fat world t exception h
    become_counted frames t world frame stack Interrupts h k =
        raised_counted fat C files t InterruptedWait (with_interrupted world t false) (Invocation frame ∷ stack) (interrupted_keeps fat world h t false)
    become_counted frames t world frame stack (Calls callee rest) h k =
        pushed_counted fat C files frames t world world (Invocation frame ∷ stack) (Invocation (at_call frame rest) ∷ stack) callee h h
    become_counted frames t world frame stack (Returns after results) h k =
        leaving_counted fat C files t frame.entered after (returned files results stack) (Invocation frame ∷ stack) k
    become_counted frames t world frame stack (Waits cost after rest) h k = k

    module _ (frames : ℕ) (event : Event) (world : WorldOf A) (h : AreMonitorsCounted fat world) where
      bytecode_by_counted : (frame : FrameOf A) (stack : StackOf A) (max_stack : ℕ) (o : Option (MeaningOf A)) → OfMeaning Counts o
          → Counted fat (bytecode_by C files frames event world frame stack max_stack o)
      bytecode_by_counted frame stack max_stack None k = enabled_counted fat (event.pick == 0) WrongKind tt
      bytecode_by_counted frame stack max_stack (Some m) k =
          let slots = frame.place.slots in
          either_part fat (C.finds files (types_of world.heap) m.wants max_stack slots) _ (unpicked event WrongKind)
          (enabled_counted fat (m.may event world (ops_of C m slots)) _
          (needing_class_counted event.thread m.looks world (Invocation frame ∷ stack) (done C files frames event world frame stack m) h
          (become_counted frames event.thread world frame stack (m.does event world slots (ops_of C m slots) (under m.wants slots)) h (k event world slots (ops_of C m slots) (under m.wants slots) fat h))))
          (enabled_counted fat (event.pick == 0) WrongKind tt)

      meant_counts : (o : Option Site) → OfMeaning Counts (option_and_then (meaning_of C files) o)
      meant_counts None = tt
      meant_counts (Some site) = meaning_counts C files site

      bytecode_counted : (frame : FrameOf A) (stack : StackOf A) (o : Option Body)
          → Counted fat (bytecode_in C files frames event world frame stack o)
      bytecode_counted frame stack None = enabled_counted fat (event.pick == 0) WrongKind tt
      bytecode_counted frame stack (Some body) =
          bytecode_by_counted frame stack body.code.max_stack (option_and_then (meaning_of C files) (site_at frame.method body frame.place.offset)) (meant_counts (site_at frame.method body frame.place.offset))

      -- ---- classes that are initialised, and threads that begin

      initialiser_counted : (t : ℕ) (m : Member) (stack : StackOf A) (o : Option Body)
          → Counted fat (initialiser_event C files frames t m world stack o)
      initialiser_counted t m stack None = h
      initialiser_counted t m stack (Some body) = pushed_counted fat C files frames t world world stack stack (frame_with C m [] None body) h h

      initialisation_counted : (t : ℕ) (class : Name) (phase : Phase) (stack : StackOf A)
          → Counted fat (initialisation_event C files frames t class phase world stack)
      initialisation_counted t class Super stack =
          needing_class_counted t (before files class) world (Initialisation class Super ∷ stack) _ h
          (initialiser_counted t (initialiser_of class) (Initialisation class End ∷ stack) (body_of files (initialiser_of class)))
      initialisation_counted t class End stack = h

      main_counted : (main : Member) (o : Option Body) → Counted fat (main_frame C files frames world main o)
      main_counted main None = tt
      main_counted main (Some body) =
          pushed_counted fat C files frames 0 world (with_begun world 0) [] [] (frame_with C main (C.reference arguments_reference ∷ []) (entered_by files main (class_reference files main.class)) body) h (begun_keeps fat world 0 h)

      run_frame_counted : (t object : ℕ) (m : Member) (o : Option Body) → Counted fat (run_frame C files frames t world object m o)
      run_frame_counted t object m None = raised_counted fat C files t AbstractMethod world [] h
      run_frame_counted t object m (Some body) =
          pushed_counted fat C files frames t world (with_begun world t) [] [] (frame_with C m (C.reference object ∷ []) (entered_by files m object) body) h (begun_keeps fat world t h)

      run_counted : (t object : ℕ) (o : Option Member) → Counted fat (run_of C files frames t world object o)
      run_counted t object None = raised_counted fat C files t AbstractMethod world [] h
      run_counted t object (Some m) = run_frame_counted t object m (body_of files m)

      begin_counted : (t : ℕ) → Counted fat (begin_event C files frames world t)
      begin_counted zero =
          let main = main_of (initial_class files) in
          needing_class_counted 0 (Some (initial_class files)) world [] (main_frame C files frames world main (body_of files main)) h (main_counted main (body_of files main))
      begin_counted (suc t) =
          let object = (thread_at world (suc t)).object in
          run_counted (suc t) object (select files (class_of_object (object_at world object)) thread_run)

      -- ---- pending exceptions, and threads that were woken

      unwound_counted : (t exception : ℕ) (frame : FrameOf A) (stack : StackOf A) (o : Option ExceptionEntry)
          → Counted fat (unwound C files t exception world frame stack o)
      unwound_counted t exception frame stack None = leaving_counted fat C files t frame.entered world stack stack h
      unwound_counted t exception frame stack (Some entry) = caught_keeps fat world t h

      failed_counted : (t exception : ℕ) (b : Bool) (class : Name) (stack : StackOf A)
          → Counted fat (failed C files t exception b (with_class_status world class Erroneous) stack)
      failed_counted t exception true class stack = h
      failed_counted t exception false class stack =
          let erroneous = with_class_status world class Erroneous in
          pending_keeps fat (allocated erroneous (machine_exception C files ExceptionInInitializer (Some exception))) t _ (more_monitors fat erroneous.monitors erroneous.threads h)

      pending_counted : (t exception : ℕ) (thrown : Option ReferenceType) (stack : StackOf A)
          → Counted fat (pending_event C files t exception thrown world stack)
      pending_counted t exception thrown [] = tt
      pending_counted t exception thrown (Invocation frame ∷ stack) =
          unwound_counted t exception frame stack (option_and_then (handler_in files frame.place.offset thrown) (body_of files frame.method))
      pending_counted t exception thrown (Initialisation class phase ∷ stack) =
          failed_counted t exception (is_object_of files (ClassType java_lang_error) thrown) class stack

      -- ---- an event

      running_counted : (stack : StackOf A) → Counted fat (running_event C files frames event world stack)
      running_counted [] = enabled_counted fat (event.pick == 0) (begin_event C files frames world event.thread) (begin_counted event.thread)
      running_counted (Invocation frame ∷ stack) = bytecode_counted frame stack (body_of files frame.method)
      running_counted (Initialisation class phase ∷ stack) =
          enabled_counted fat (event.pick == 0) (initialisation_event C files frames event.thread class phase world stack) (initialisation_counted event.thread class phase stack)

      going_counted : (stack : StackOf A) (pending : Option ℕ) → Counted fat (going_event C files frames event world stack pending)
      going_counted stack None = running_counted stack
      going_counted stack (Some exception) =
          let thrown = slice_get (types_of world.heap) exception in
          enabled_counted fat (event.pick == 0) (pending_event C files event.thread exception thrown world stack) (pending_counted event.thread exception thrown stack)

    after_wait_counted : (t : ℕ) (cause : WakeCause) (world : WorldOf A) (stack : StackOf A) → AreMonitorsCounted fat world
        → Counted fat (after_wait C files t cause world stack)
    after_wait_counted t Notified world stack h = h
    after_wait_counted t Interrupted world stack h = raised_counted fat C files t InterruptedWait (with_interrupted world t false) stack (interrupted_keeps fat world h t false)

    event_counted : (frames : ℕ) (event : Event) (world : WorldOf A) (stack : StackOf A) (status : ThreadStatus)
        → AreMonitorsCounted fat world → IsStatusCounted fat status → Counted fat (thread_event C files frames event world stack status)
    event_counted frames event world stack Running h p = going_counted frames event world h stack (thread_at world event.thread).pending
    event_counted frames event world stack (Waiting object count) h p = tt
    event_counted frames event world stack (Relock object count cause) h p =
        let locked = with_monitors world (monitors.relock object event.thread count world.monitors) in
        let after = with_status locked event.thread Running in
        let k : AreMonitorsCounted fat locked = relock_keeps fat world h event.thread object count p in
        enabled_counted fat (event.pick == 0) (relock_event C files event.thread object count cause world stack)
        (enabled_counted fat (is_done (monitors.relock object event.thread count world.monitors).answer) (after_wait C files event.thread cause after stack)
        (after_wait_counted event.thread cause after stack (status_keeps fat locked k event.thread Running tt)))
    event_counted frames event world stack (Ended exception) h p = tt

  -- ---- states

  abbrev pub StateCounted : (ℕ → Bool) → SteppedOf (StateOf A) → Type 0
  StateCounted fat NotEnabled = Unit {0}
  StateCounted fat WrongKind = Unit {0}
  StateCounted fat (Next cost next) = AreMonitorsCounted (is_fat_after cost fat) next.world

  put_counted : (fat : ℕ → Bool) (state : StateOf A) (t : ℕ) (x : SteppedOf (PartOf A)) → Counted fat x
      → StateCounted fat (with_part state t x)
  put_counted fat state t NotEnabled h = tt
  put_counted fat state t WrongKind h = tt
  put_counted fat state t (Next cost p) h = h

  module _ (C : Carrier A) (files : Program) (frames : ℕ) (state : StateOf A) (event : Event) (fat : ℕ → Bool) (h : AreMonitorsCounted fat state.world) where
    by_stack : (o : Option (StackOf A)) → StateCounted fat (event_of C files frames state event o)
    by_stack None = tt
    by_stack (Some stack) =
        let status = (thread_at state.world event.thread).status in
        let x = thread_event C files frames event state.world stack status in
        put_counted fat state event.thread (settled event.thread x)
        (settled_counted fat event.thread x (event_counted C files fat frames event state.world stack status h (h.statuses_are event.thread)))

    pub stepped_counted : StateCounted fat (stepped C files frames state event)
    stepped_counted = by_stack (slice_get state.stacks event.thread)

  pub kept : (C : Carrier A) → IsCountKept C
  kept C files frames state event cost next e fat h = subst (StateCounted fat) e (stepped_counted C files frames state event fat h)

pub counts_kept : AreCountsKept
counts_kept = record { of_values = kept values; of_words = kept words }
